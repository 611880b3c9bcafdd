pub mod Crossing
pub mod Entries
pub mod NameLaws
pub mod Unfolded
