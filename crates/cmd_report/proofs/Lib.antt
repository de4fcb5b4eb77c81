pub mod Alike
pub mod Columns
pub mod Merging
pub mod Alone
pub mod Composing
