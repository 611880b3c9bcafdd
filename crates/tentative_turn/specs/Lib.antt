pub mod Sending
pub mod Turn
