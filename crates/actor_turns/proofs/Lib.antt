pub mod Due
pub mod Noted
pub mod Turned
