-- Laws of decimal numbers and rendered names, and that each contract determines its answer.
pub mod Names
pub mod Determined
