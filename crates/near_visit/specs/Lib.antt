-- What the contracts of `near_visit` are said with.
pub mod Tests
