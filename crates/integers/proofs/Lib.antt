-- Theorems that stand beside the proofs of the functions.
pub mod Bounded
pub mod Worth
pub mod Uses
