pub mod Acting
pub mod Kept
pub mod Moved
pub mod Opening
pub mod Ready
pub mod Rows
pub mod Trying
