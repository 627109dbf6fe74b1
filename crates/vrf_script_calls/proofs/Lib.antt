-- What the calls use of the writer's contract.
pub mod Written
