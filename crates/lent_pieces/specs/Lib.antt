pub mod Back
pub mod Claims
pub mod Doomed
pub mod Giving
pub mod Leading
