-- Laws that the proofs of `build` share.
pub mod Numbers
pub mod Node
pub mod Parts
