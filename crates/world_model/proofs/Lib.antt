pub mod Kept
pub mod Opens
pub mod lists
pub mod records
pub mod rows
