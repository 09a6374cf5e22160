-- What is held before any byte, what the end of the input comes to, and a whole run.
pub mod Opened
pub mod Finishes
pub mod Runs
