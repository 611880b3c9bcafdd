pub mod BoxLaws
pub mod Crossing
pub mod Dropping
pub mod Firsts
pub mod Held
pub mod Waiting
