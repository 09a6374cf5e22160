-- What one byte comes to, and which tables are built past bytes.
pub mod Byte
pub mod Stay
