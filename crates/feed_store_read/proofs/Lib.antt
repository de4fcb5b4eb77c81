pub mod Names
pub mod ReleaseRows
pub mod Widths
pub mod InOrder
pub mod Answers
pub mod More
pub mod Streams
pub mod Selected
pub mod Ascending
pub mod GivenRows
pub mod Parents
pub mod Joined
pub mod Orders
mod GivenReasons
mod ReasonAnswers
mod Explaining
