pub mod Flags
pub mod Queues
pub mod Homes
pub mod Rounds
pub mod Turns
pub mod Served
pub mod Addresses
