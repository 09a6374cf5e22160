-- What is no question.
pub mod Others
