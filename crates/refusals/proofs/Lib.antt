-- Refusals, exactly: the first check that holds (First); what one visit and one walk see of their rows (Sees); the
-- questions that walk once (Questions), and so each question's refusals before its walk (Exactly) and in it (Bad), and
-- that a walk comes to rows of the table alone (Reached). Where AGREE's asking is refused: Asking.
pub mod First
pub mod Sees
pub mod Questions
pub mod Reached
pub mod Asking
pub mod Exactly
pub mod Bad
