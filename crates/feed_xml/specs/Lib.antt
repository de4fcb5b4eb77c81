pub mod Marks
pub mod Characters
pub mod Elements
pub mod XmlFragments
pub mod Reading
pub mod Laws
