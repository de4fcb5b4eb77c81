pub mod BadFile
mod Records
mod Twice
mod Arranged
mod Order
mod Listed
pub mod Failed
pub mod Ascending
pub mod Strict
mod Later
