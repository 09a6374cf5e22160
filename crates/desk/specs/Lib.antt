-- docs/RULES.md, section 7: the question program, as a function from the bytes read to the bytes written.
pub mod Desk
pub mod Program
pub mod Chunks
pub mod Kept
