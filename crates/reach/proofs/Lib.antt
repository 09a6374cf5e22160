-- Laws of distances and of shortfalls, for `reach` and the crates above it.
pub mod Sizes
pub mod Segment
