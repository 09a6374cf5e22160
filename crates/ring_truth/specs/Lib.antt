-- What the answers of IN mean.
pub mod OnEdge
pub mod Truth
pub mod Restarted
