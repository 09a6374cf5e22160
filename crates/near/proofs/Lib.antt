-- Laws of NEAR's reply.
pub mod Replies
