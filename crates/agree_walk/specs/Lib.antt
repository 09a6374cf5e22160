-- What the contracts of `agree_walk` are said with.
pub mod Asking
