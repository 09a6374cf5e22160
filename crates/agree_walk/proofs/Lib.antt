-- Laws of points asked one after another.
pub mod Points
