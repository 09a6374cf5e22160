-- Bytes behind bytes, the end of the input, a whole run, and one outcome alone.
pub mod Chunk
pub mod Last
pub mod Program
pub mod Unique
