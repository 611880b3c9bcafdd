pub mod Finishing
pub mod InTurn
pub mod Over
pub mod Sorted
