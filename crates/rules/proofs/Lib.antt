-- Theorems about the definitions, that stand beside them.
pub mod Figures
pub mod Unique
