-- What it means that a question is answered, by a function and by the program.
pub mod Answers
pub mod Program
