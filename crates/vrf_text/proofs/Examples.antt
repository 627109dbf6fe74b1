-- Examples of UTF-8, UTF-16, texts on the wire, refusals and callers' texts, computed from the definitions.
pub mod Utf8
pub mod Utf16
pub mod Text
pub mod Refusal
pub mod Caller
