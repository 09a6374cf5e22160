-- Laws that the proofs of `build_checks` share.
pub mod Lowest
