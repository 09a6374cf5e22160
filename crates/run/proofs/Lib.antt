-- Laws of a run of points: its points, its ends and what is measured of it so far.
pub mod Points
pub mod Ends
pub mod SoFar
