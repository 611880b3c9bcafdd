pub mod Drives
pub mod SoFar
pub mod Wants
