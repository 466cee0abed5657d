pub mod Outside
pub mod Schedules
pub mod Memory
pub mod Standard
pub mod Keeping
pub mod Gains
