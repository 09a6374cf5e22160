-- Laws of stored numbers, of lengths and of headings, for `line` and the crates above it.
pub mod Smalls
pub mod Stored
pub mod Lengths
pub mod Headings
pub mod Picks
