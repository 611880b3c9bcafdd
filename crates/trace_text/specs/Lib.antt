pub mod Cut
pub mod Lines
pub mod Refused
pub mod Same
