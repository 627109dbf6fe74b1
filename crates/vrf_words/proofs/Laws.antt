-- Laws about words and parts: what they read after a write.
pub mod Words
