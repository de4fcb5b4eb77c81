pub mod Days
pub mod DayRanges
