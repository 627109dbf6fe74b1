-- laws
pub mod Laws
-- computed examples
pub mod Examples
