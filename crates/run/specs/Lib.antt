-- What the contracts of `run` are said with.
pub mod Run
