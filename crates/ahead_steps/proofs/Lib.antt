pub mod Begun
pub mod Came
pub mod Held
pub mod Marked
pub mod Moved
pub mod Sent
pub mod Waited
pub mod Written
