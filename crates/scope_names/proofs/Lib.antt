pub mod Defined
pub mod OpNames
pub mod Shown
