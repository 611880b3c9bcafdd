pub mod Crossing
pub mod Dealt
pub mod Earlier
pub mod Rests
pub mod Runs
