pub mod Shown
pub mod Piece
pub mod Cut
pub mod Segments
