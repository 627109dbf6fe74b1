-- laws about these steps
pub mod Laws
