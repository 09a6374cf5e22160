-- Theorems about tables of 32-bit numbers.
pub mod Narrow
pub mod Widened
