pub mod BufferFilling
pub mod RequestReading
pub mod NamedFields
pub mod ResponseReading
pub mod HeadsFound
