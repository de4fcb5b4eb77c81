pub mod Labels
pub mod Seconds
pub mod Exposition
pub mod ExpositionReader
pub mod Rows
pub mod Series
pub mod Laws
