-- Document 01, section Text: how a field name is rendered. These are the definitions, in reading order. `Answers` relates them to the
-- code's answer type.
pub mod Names
pub mod Answers
-- contracts of the functions that are not exported
pub mod Inner
