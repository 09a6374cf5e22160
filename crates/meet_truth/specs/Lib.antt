-- What it means that two segments, and two lines, share a point.
pub mod Meeting
