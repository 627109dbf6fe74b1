-- Laws about walks, indexes and tables, and about the answers and texts of the functions.
pub mod Answers
pub mod Spelled
pub mod Chain
pub mod Index
pub mod Table
