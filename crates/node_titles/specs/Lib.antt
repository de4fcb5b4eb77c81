pub mod Titles
pub mod Walks
pub mod TitleSearches
pub mod Laws
