pub mod Carries
pub mod EntrySteps
pub mod Making
pub mod Same
