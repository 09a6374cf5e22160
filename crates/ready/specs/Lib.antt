-- What the contracts of `ready` are said with.
pub mod Readied
pub mod Left
