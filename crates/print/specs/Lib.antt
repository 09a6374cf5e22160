-- docs/RULES.md, section 7.6: the printed line.
pub mod Decimal
pub mod Printed
pub mod Put
