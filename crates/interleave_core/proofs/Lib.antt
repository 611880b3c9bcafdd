pub mod Crossing
pub mod Idle
pub mod Ready
pub mod Worlds
