mod Finding
mod Growth
mod Growing
mod Judged
mod NextRange
mod PackageSearch
mod Reason
mod Answered
mod Answering
mod Reopened
mod Failed
mod Earlier
mod Dropping
mod ReadAhead
pub mod Inserting
pub mod ActivesReported
pub mod ByPackage
