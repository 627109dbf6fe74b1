-- laws
pub mod Laws
