pub mod Alters
pub mod Heads
