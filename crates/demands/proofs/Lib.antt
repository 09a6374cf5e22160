-- What was asked for: what plain AGREE says (Agreement), and the four questions, of any sound table (Sound), of one
-- that the checker accepted (Accepted), of the built one (Built), of an old one that is widened (Widened), and of the
-- program (Program).
pub mod Agreement
pub mod Sound
pub mod Accepted
pub mod Built
pub mod Widened
pub mod Program
