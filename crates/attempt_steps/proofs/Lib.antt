pub mod Again
pub mod Children
pub mod Ended
pub mod Posted
pub mod Taking
pub mod Waits
pub mod Wanting
