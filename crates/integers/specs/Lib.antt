-- ℤ as an ordered commutative ring, checkers of its facts, and ranges of machine numbers. No geometry.
pub mod Laws
pub mod Poly
pub mod Check
pub mod Order
pub mod Range
pub mod Machine
pub mod Ops
