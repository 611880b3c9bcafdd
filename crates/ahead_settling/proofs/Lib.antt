pub mod Begun
pub mod First
pub mod Lefts
pub mod Nexts
pub mod Sending
pub mod Wakes
