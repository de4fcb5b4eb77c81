pub mod NothingTold
pub mod Packages
pub mod NamesNext
