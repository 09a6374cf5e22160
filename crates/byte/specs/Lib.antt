-- What is carried from byte to byte, and what bytes come to.
pub mod Feeds
