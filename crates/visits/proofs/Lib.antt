-- Theorems about the written walk, and what all questions share: rows, sound tables, the checks before a walk, replies.
pub mod Tests
pub mod Terms
pub mod Points
pub mod Weights
pub mod Affine
pub mod Counts
pub mod Runs
pub mod Checks
pub mod Told
pub mod Levels
pub mod Replies
pub mod Nodes
pub mod Reached
pub mod Held
pub mod Sound
pub mod Visits
