pub mod Members
pub mod Rooms
pub mod Closing
pub mod Gathered
