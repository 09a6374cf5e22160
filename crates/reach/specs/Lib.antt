-- What the contracts of `reach` are said with.
pub mod Bounds
