pub mod Dealt
pub mod Earlier
pub mod Rest
pub mod Runs
