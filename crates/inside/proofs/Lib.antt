-- Laws that the proofs of `inside` share.
pub mod Replies
