pub mod Trim
pub mod Split
pub mod Parts
pub mod Hexadecimal
