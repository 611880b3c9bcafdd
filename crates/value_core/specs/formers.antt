pub mod dict
pub mod seq
