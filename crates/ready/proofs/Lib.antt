-- Laws that the proofs of `ready` share, and that what is readied is one outcome.
pub mod Tables
pub mod Goes
pub mod Unique
