-- How the other crates read lent memory: as 32-bit words and as parts (runs of bytes). The only definitions are in `Words`.
pub mod Words
-- names used in contracts: a written word, byte ranges that do not overlap
pub mod Inner
