pub mod Depths
pub mod OpPlaces
