-- What is held between two chunks, and what each answer of `read` comes to.
pub mod After
pub mod Passed
