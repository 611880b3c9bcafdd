pub mod Attempts
pub mod Commits
pub mod Effects
pub mod Endings
pub mod Turns
pub mod Undone
