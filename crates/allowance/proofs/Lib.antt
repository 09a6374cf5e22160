-- Demand 3, from one visit up: what needs a number of visits (Needs), any walk (Walks), the questions' visits (Visits)
-- and walks (Asking), the four theorems (Questions), and what follows of each (Allowances).
pub mod Needs
pub mod Walks
pub mod Visits
pub mod Asking
pub mod Questions
pub mod Allowances
