-- What the contracts of `answers` are said with.
pub mod Asked
