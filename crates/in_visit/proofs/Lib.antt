-- Laws of IN's visits, and that what one does it does by one outcome.
pub mod Visits
