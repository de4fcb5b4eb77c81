pub mod Prefixes
pub mod OneHead
pub mod HostParts
