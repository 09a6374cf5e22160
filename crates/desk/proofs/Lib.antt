-- Theorems about the question program's definition.
pub mod Figures
pub mod Chunks
pub mod Begun
