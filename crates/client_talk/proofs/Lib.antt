pub mod Heard
pub mod Talks
