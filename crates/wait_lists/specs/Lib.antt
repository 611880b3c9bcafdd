pub mod Links
pub mod WaitLists
