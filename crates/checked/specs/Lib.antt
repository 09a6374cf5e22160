-- What the theorems about the checker say.
pub mod Faults
