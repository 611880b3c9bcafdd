pub mod Committing
pub mod Deeds
pub mod Settling
