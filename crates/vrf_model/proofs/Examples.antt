-- Examples computed from the definitions: document 01's table, the cases of each call, and its other rules.
pub mod Computing
pub mod Document01
pub mod Calls
pub mod Rules
