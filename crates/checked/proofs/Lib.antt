-- Theorems about the checker of tables.
pub mod Under
pub mod Sound
pub mod Faults
pub mod Rest
