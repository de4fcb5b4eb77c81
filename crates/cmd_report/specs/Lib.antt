pub mod Columns
pub mod Ranking
pub mod Comparison
pub mod Laws
pub mod Pairing
