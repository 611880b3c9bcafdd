pub mod FoundCommand
pub mod OtherNames
