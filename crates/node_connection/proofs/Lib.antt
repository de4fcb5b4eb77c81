pub mod Exchanges
pub mod HeldBytes
pub mod Found
pub mod Unavailable
pub mod States
pub mod Steps
pub mod Waits
pub mod Phases
