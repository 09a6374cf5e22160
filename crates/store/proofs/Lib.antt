-- Points behind points, and bytes behind bytes.
pub mod Stores
pub mod Texts
