pub mod Ending
pub mod Looking
pub mod Turning
