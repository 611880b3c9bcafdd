pub mod Appends
pub mod Reading
pub mod Sound
pub mod Tables
