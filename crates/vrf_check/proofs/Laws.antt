-- Laws about the steps of the check, and about the loops and tests of the code.
pub mod Tests
pub mod Steps
