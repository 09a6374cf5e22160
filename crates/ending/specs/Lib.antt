-- How a walk ended, in one number, and what it is read as.
pub mod Ending
