-- Laws about printing line by line, and about the book that the tool opens.
pub mod Printed
pub mod Reading
