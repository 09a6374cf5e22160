-- What the contracts of `in_visit` are said with.
pub mod Tests
