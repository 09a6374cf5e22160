-- Decimal digits, bytes written one after another, the widest line, one outcome alone, and the lines of the whole case.
pub mod Digits
pub mod Writing
pub mod Width
pub mod Unique
pub mod Figures
