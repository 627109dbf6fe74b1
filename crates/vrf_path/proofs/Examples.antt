-- Examples of keys, aliases, leaves, toggles and stems, computed from the definitions.
pub mod Keys
pub mod Default
pub mod Core
pub mod Leaf
pub mod Toggle
pub mod Stems
