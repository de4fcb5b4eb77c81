pub mod Layout
pub mod Others
pub mod Tables
pub mod Records
pub mod Live
