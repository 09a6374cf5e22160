-- What the contracts of `store` are said with.
pub mod States
