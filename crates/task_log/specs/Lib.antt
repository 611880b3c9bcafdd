pub mod Answered
pub mod Logged
