pub mod Agreeing
pub mod Crossing
pub mod Marks
pub mod Primitives
