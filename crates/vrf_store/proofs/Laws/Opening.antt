-- Laws about opening and clearing: an empty store is valid, and opening gives a fresh book.
pub mod Empty
pub mod Opening
