-- Document 01, section Keys, and the leaves, toggles and stems of path.rs and resolve.rs: the definitions, in reading order. `Answers`
-- relates them to the code's answer types.
pub mod Text
pub mod Keys
pub mod Leaf
pub mod Toggle
pub mod Stems
pub mod Base
pub mod Answers
-- definitions for inner contracts
pub mod Inner
