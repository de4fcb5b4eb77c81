mod Skipped
pub mod Digits
pub mod PartsCut
pub mod Cuts
