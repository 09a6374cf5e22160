-- Laws of rows and nodes, for `row` and the crates above it.
pub mod Parts
pub mod Places
pub mod OneVisit
