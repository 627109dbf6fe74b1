-- The tool `tally` (document 01, Blocks). Read the definitions in this order: `Tally` defines the text that the tool prints, `Printed`
-- defines where that text is in the output buffer.
pub mod Tally
pub mod Printed
-- definitions for the private functions
pub mod Inner
