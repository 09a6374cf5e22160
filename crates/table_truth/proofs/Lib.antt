-- Theorems about the described table.
pub mod Rows
pub mod Split
pub mod Extents
pub mod Part
pub mod Refusals
pub mod Measured
pub mod Table
pub mod Halves
pub mod Sound
