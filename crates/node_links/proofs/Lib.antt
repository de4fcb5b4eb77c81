pub mod Fillings
pub mod LinksMade
pub mod RowSizes
pub mod LinksFit
pub mod SizesMade
