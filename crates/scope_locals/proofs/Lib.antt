pub mod ByName
pub mod Innermost
pub mod Levels
