pub use Rattle.feed_names.specs.ReleaseName as ReleaseName
pub mod File
pub mod History
pub mod Reply
pub mod Content
pub mod Change
pub mod Parts
pub mod Handles
pub mod Sound
pub mod Texts
pub mod Earlier
pub mod Larger
