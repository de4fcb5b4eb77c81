pub mod Inside
pub mod Runs
pub mod Inserts
pub mod Deletes
pub mod Sets
pub mod Tables
pub mod Sequence
mod Terms
mod Recognised
mod LayoutNumber
mod Selects
mod Renumbering
mod Steps
mod Found
mod Ran
