-- Laws that the proof of `meet_walk` shares.
pub mod Halves
