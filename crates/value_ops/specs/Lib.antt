pub mod Depths
pub mod Kinds
