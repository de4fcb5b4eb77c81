pub mod Requests
pub mod Articles
pub mod LibraryLinks
pub mod RequestLaws
