-- laws about these definitions and contracts
pub mod Laws
