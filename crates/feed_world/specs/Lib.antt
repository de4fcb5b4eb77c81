pub use Rattle.feed_model.specs.History
pub use Rattle.feed_answer.specs.Queries
pub use Rattle.feed_answer.specs.Answers
pub mod World
pub mod Shown
pub mod Headline
pub mod LineText
