pub mod Chunks
pub mod Crossing
