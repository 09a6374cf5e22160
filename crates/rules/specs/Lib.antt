-- The rules of docs/RULES.md as definitions. Definitions compute, and none has a bound inside geometry.
pub mod Plane
pub mod Sheet
pub mod Tree
pub mod Plain
pub mod Reply
pub mod Walk
pub mod Rows
pub mod Questions
pub mod Build
pub mod Check
pub mod Old
