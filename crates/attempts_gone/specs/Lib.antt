pub mod Dropping
pub mod Gone
pub mod Live
