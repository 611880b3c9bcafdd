pub mod formers
pub mod Pieces
pub mod PiecesPlaced
pub mod Stored
pub mod VectorItems
