pub mod Tokens
pub mod Sites
