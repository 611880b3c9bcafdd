pub mod Every
pub mod Passing
pub mod Shapes
pub mod Unique
pub mod Whys
