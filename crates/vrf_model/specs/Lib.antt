-- Document 01 as definitions, in reading order. Read them beside its sections The book, Text, Export runs, Blocks and Where each check
-- stands. Bits, texts and keys are defined in `vrf_bitio`, `vrf_text` and `vrf_path`.
pub mod Book
pub mod Lookup
pub mod Setting
pub mod Names
pub mod Parser
pub mod Runs
pub mod Block
pub mod Writer
pub mod Calls
pub mod Answers
pub mod Clash
pub mod Claims
pub mod Untouched
pub mod Lawful
pub mod LateJoin
pub mod OneBlock
