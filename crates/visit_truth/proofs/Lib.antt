-- Two steps of a visit that do the same are the same: NEAR's and IN's.
pub mod Near
pub mod In
