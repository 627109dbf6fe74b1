-- Laws about texts: appending one, moving them to the other half, and that the book stays the same.
pub mod Same
pub mod Appended
pub mod Rows
pub mod Moved
pub mod Compacted
pub mod Space
