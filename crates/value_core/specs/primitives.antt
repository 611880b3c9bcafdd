pub mod Apply
pub mod Equality
pub mod Ints
pub mod Kinds
pub mod Parts
pub mod Words
