-- Names used in the contracts of the functions in `src/lib.rt` that write or copy bytes.
pub mod Words
