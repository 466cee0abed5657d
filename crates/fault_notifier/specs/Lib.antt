pub mod Filters
pub mod Keeping
pub mod Notifying
