pub mod BySender
pub mod Messages
pub mod Unsettled
