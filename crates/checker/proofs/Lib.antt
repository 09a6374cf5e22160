-- Laws of a run and of its row, for the checker.
pub mod Run
pub mod Level
