pub mod Dropping
pub mod Hanging
pub mod Sends
pub mod Turns
pub mod Undoing
