-- Laws that the proofs of `apart` share.
pub mod Corners
