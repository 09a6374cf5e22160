-- Laws of the walk of a whole line.
pub mod Root
