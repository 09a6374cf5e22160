-- The sizes of points on the sheet: who has them, and how large a step, c, t and |u|^2 can be.
pub mod OnSheets
pub mod Sizes
