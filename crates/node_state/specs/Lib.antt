pub mod NodeCounts
pub mod FetchOutcomes
pub mod ReleaseTimes
pub mod StateReports
