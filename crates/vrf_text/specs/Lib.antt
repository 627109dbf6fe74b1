-- Texts: UTF-8 (RFC 3629), UTF-16 (RFC 2781) and document 01, section Text. These are the definitions, in reading order. `Answers` relates
-- them to the code's answer types.
pub mod Utf8
pub mod Utf16
pub mod Text
pub mod Answers
-- contracts of the functions that are not exported
pub mod Inner
