-- Laws that the proofs of `meet` share.
pub mod Roots
pub mod Replies
