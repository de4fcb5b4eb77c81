mod Flags
mod Without
mod Waits
pub mod Homes
mod Goes
mod Ready
