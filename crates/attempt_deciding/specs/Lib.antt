pub mod Deciding
pub mod Ending
pub mod TaskAt
pub mod Undoing
