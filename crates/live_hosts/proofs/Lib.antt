pub mod Ending
pub mod Moving
pub mod Sending
pub mod Starting
