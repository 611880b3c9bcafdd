pub mod Lent
pub mod Run
