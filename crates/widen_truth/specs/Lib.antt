-- What the theorems about old tables say.
pub mod RowRange
