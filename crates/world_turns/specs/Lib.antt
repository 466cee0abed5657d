pub mod Turns
pub mod Answers
pub mod Doing
pub mod Sending
pub mod Naming
