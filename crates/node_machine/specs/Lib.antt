pub mod Exchanges
pub mod NodeEvents
pub mod Rules
pub mod Occasions
pub mod Nodes
pub mod Promise
