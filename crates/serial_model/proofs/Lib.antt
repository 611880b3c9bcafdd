pub mod Crossing
pub mod Early
pub mod evaluation
pub mod runs
pub mod standing
pub mod tasks
