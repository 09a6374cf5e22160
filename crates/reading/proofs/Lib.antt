-- What is held past bytes, the answers of `read`, and one outcome alone for each.
pub mod After
pub mod Answers
pub mod Unique
