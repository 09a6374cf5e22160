-- What the contracts of `row` are said with.
pub mod Stands
pub mod Parts
