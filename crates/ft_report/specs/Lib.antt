pub mod Worth
pub mod Report
pub mod Writing
