pub mod Hiding
pub mod LoopNumbers
pub mod Members
pub mod Noting
pub mod ReachedOnce
pub mod Reaching
pub mod Spreading
pub mod Surveys
