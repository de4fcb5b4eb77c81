pub mod FileTypes
pub mod RowCounts
pub mod ExpectedFiles
pub mod FileChecks
pub mod ShrinkGates
pub mod PartChecks
