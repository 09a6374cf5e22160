-- What the contracts of `in_walk` are said with.
pub mod Walks
