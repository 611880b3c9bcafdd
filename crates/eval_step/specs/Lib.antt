pub mod Evaluation
pub mod Parts
pub mod Resume
pub mod Standing
pub mod Steps
pub mod Unread
pub mod Walk
