pub use Rattle.feed_dates.specs.Days as Day
pub mod ReleaseName
