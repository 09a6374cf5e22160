-- What the contracts of `meet` are said with.
pub mod Roots
