pub mod Ends
pub mod Finished
pub mod First
pub mod Level
pub mod Mailed
pub mod Sorted
pub mod Turns
pub mod Walked
