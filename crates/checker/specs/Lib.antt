-- What the contracts of the checker are said with.
pub mod Found
