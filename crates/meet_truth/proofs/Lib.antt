-- Demand 2 for MEET: the exact test means a shared point, no dismissal loses one, and so the walk tells the truth.
pub mod Parted
pub mod Test
pub mod Share
pub mod Dismissed
pub mod Plain
pub mod Truth
