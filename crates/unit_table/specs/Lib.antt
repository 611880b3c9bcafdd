pub mod Board
pub mod Keeping
pub mod Piece
