pub mod GoingOn
pub mod Wrote
