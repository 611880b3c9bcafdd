pub mod KnownTasks
pub mod Requests
pub mod Trees
pub mod Turns
