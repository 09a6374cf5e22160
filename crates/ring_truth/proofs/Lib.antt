-- Demand 2 for IN.
pub mod OnEdge
pub mod Behind
pub mod Clear
pub mod Truth
pub mod Restarted
