pub mod Monitoring
pub mod Polling
pub mod Sweeping
pub mod Staying
pub mod Arriving
pub mod Subscribing
