pub mod ManyDraws
pub mod MoreLines
pub mod Pieces
