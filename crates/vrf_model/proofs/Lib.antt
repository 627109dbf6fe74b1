-- What is proved about the definitions.
pub mod Laws
-- Document 01's examples and further ones, computed from the definitions.
pub mod Examples
