pub mod Agreeing
pub mod Answered
pub mod Control
pub mod Finish
pub mod Frame
pub mod Known
pub mod Leaf
