pub mod Texts
pub mod Schemas
pub mod Effects
pub mod Upgrading
pub mod Number
pub mod Statements
