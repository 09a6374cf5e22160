-- docs/RULES.md, section 7.3: how a field is read as a number.
pub mod Numerals
