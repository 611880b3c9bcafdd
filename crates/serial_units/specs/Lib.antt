pub mod Asking
pub mod Codes
pub mod Own
pub mod Task
pub mod Tasks
pub mod Units
