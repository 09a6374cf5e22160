-- What records and text lines come to, and which tables are built past them.
pub mod Desks
pub mod Stay
