pub mod Fitting
pub mod Rules
pub mod Turns
pub mod Forms
pub mod Level
pub mod Top
pub mod Refused
pub mod Found
