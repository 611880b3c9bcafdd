pub mod Refused
pub mod Schedule
