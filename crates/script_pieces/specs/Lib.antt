pub mod Runs
pub mod Feeds
pub mod Scripts
pub mod Samples
