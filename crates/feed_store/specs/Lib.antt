pub mod Faults
pub mod Upgraded
pub mod Adopted
