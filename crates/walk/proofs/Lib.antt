-- Laws of visits and walks, whatever the question.
pub mod Visits
pub mod Unique
pub mod Root
