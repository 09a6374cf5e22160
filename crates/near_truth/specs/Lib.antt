-- What the theorems of this crate speak of beside the rules' own words.
pub mod Reach
pub mod First
