pub mod Answering
pub mod Ended
pub mod Stopped
pub mod Tracing
pub mod Worlds
