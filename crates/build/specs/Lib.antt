-- What the contracts of `build` are said with.
pub mod Rows
