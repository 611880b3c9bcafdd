pub mod Expansion
pub mod Meaning
pub mod Sugar
pub mod Words
