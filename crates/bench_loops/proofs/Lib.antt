-- What is left of a book after a call, accepted or refused.
pub mod Steps
