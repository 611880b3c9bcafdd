pub mod Tasks
pub mod Waiting
