pub mod Backs
pub mod Planned
pub mod Returned
pub mod Told
pub mod Whole
