pub mod Escapes
pub mod Numbers
pub mod Splits
pub mod Laws
