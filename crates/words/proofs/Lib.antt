-- Laws of words and records, for the proofs of the functions that read them.
pub mod Words
pub mod Figures
