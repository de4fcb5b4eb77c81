pub mod Written
pub mod Structure
pub mod Found
pub mod SpansCounted
