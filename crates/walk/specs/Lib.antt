-- What the contracts of `walk` are said with.
pub mod Tests
pub mod Steps
pub mod Walks
