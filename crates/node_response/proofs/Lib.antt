pub mod HeadsRead
pub mod EscapedTexts
pub mod JsonTexts
pub mod Written
pub mod Utf8Texts
pub mod Visible
pub mod Pieces
