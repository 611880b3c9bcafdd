pub mod Back
pub mod Left
pub mod Plan
pub mod Putting
