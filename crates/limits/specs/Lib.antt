-- The sizes of points on the sheet, for which the machine's arithmetic is exact.
pub mod Small
