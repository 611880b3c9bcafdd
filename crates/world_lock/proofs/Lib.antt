pub mod Begun
pub mod Sums
pub mod OneValue
pub mod Keeps
pub mod Rules
pub mod Growing
