-- docs/RULES.md, section 7.2: how a text line is read.
pub mod Fields
pub mod Records
