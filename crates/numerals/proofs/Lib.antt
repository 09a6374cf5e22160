-- Laws of digits, for the proofs of the functions that read them.
pub mod Digits
pub mod Unique
