pub mod Records
pub mod Utf8
pub mod Checks
pub mod Reader
pub mod Failures
