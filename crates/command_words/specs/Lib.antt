pub mod Parser
pub mod Reading
pub mod Said
