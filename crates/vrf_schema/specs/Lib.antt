-- The contracts of the exported functions, and demands 1 and 3 stated over them. Read `CallContract` first, then `OpenContract`,
-- `WriteContract` and `CountersContract`, then `Demand1` and `Demand3`. `Checked` defines what the checks before a call answer.
pub mod CallContract
pub mod OpenContract
pub mod WriteContract
pub mod CountersContract
pub mod Checked
pub mod Demand1
pub mod Demand3
-- contracts of private functions
pub mod Inner
