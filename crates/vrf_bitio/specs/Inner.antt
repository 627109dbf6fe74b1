-- names used in the contracts of the functions that are not exported
pub mod Reader
