pub mod EscapedTexts
