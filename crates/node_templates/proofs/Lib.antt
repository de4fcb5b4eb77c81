pub mod Reading
pub mod Links
pub mod Keeping
pub mod PlainTexts
pub mod Parts
