-- What the theorems about walks and checks are said with, and the points of a segment.
pub mod Tells
pub mod Truthful
pub mod Clear
pub mod Weights
pub mod Fine
pub mod Nodes
pub mod Reached
