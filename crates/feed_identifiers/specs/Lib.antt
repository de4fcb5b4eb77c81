pub mod Check
pub mod Issn
pub mod Isbn
pub mod Identifier
pub mod Laws
