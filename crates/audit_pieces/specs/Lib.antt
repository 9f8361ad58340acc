pub mod Pieces
pub mod PiecesLaws
