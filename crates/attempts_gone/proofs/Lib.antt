pub mod Dropped
pub mod Gone
pub mod Live
