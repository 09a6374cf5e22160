-- What the contracts of `meet_visit` are said with.
pub mod Sides
pub mod Pairs
pub mod Steps
