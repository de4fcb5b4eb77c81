pub mod Slices
pub mod Over
pub mod Nodes
pub mod Moves
pub mod Places
pub mod Shown
pub mod Main
pub mod Wrong
