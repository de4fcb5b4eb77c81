pub mod Connections
pub mod Logs
pub mod Peers
pub mod Places
pub mod Tables
