pub mod Claimed
pub mod Conflicts
pub mod Decided
pub mod Ending
