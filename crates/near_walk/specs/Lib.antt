-- What the contracts of `near_walk` are said with.
pub mod Walks
