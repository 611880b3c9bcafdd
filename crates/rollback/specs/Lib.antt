pub mod Dependants
pub mod Gathering
pub mod Undone
