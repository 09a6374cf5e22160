-- What the contracts of `meet_walk` are said with.
pub mod Pair
pub mod Walks
