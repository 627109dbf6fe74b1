-- Document 01, section Bits: the definitions, in reading order. `Answers` relates them to the code's answer types.
pub mod Ascii
pub mod Bits
pub mod Reading
pub mod Reasons
pub mod Window
pub mod Number
pub mod Pasted
pub mod Answers
-- names used in the contracts of the functions that are not exported
pub mod Inner
