-- Laws that the proofs of `meet_visit` share, and those above it.
pub mod GoodRows
pub mod Steps
