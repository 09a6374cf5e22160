-- Laws of AGREE's reply.
pub mod Replies
