pub mod Crossing
pub mod Parts
pub mod Pieces
