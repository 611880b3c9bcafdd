pub mod Beginning
pub mod First
pub mod Leaving
pub mod Settling
pub mod Waking
