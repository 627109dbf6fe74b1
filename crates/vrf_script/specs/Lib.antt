-- The parts of a script promise only bounds, but for a text that a caller writes into the answers, and the printed text of why a run ends.
-- `Inner` holds the definitions for these two.
pub mod Inner
