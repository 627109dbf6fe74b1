-- How a book finds a record in lent memory: chained hashing, claims, tables of rows, and the indexes of groups by path and by leaf.
-- Read the definitions in this order.
pub mod Chain
pub mod Index
pub mod Table
pub mod TextIndex
-- names used in contracts
pub mod Inner
