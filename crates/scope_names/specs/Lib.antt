pub mod Finding
pub mod Names
pub mod Ops
pub mod Shapes
pub mod Special
