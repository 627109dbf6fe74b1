-- Laws of texts, keys, leaves, toggles, stems and bases, what a key of the code spells, and that each contract determines its answer.
pub mod Text
pub mod Keys
pub mod Leaf
pub mod Toggle
pub mod Stems
pub mod Base
pub mod Determined
pub mod Answers
pub mod Left
