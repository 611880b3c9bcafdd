pub mod Actors
pub mod Now
pub mod Progress
pub mod Standing
