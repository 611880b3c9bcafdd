pub mod Letters
pub mod Putting
