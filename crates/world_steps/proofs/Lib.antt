pub mod Acting
pub mod Due
pub mod Forking
pub mod Rousing
pub mod Settling
pub mod Trying
