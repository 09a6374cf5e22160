-- What a step of NEAR or of IN does.
pub mod Does
