-- Laws of NEAR's visits, and that what one does it does by one step.
pub mod Visits
pub mod Unique
