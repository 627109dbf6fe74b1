-- Laws of UTF-8, of UTF-16 and of text on the wire, and that each contract determines its answer.
pub mod Utf8
pub mod Utf16
pub mod RoundTrip
pub mod Text
pub mod Determined
