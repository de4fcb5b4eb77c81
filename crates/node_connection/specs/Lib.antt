pub mod Requests
pub mod Events
pub mod Responses
pub mod HeldBytes
pub mod States
pub mod Streams
