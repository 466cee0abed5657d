pub mod Dropping
pub mod Running
pub mod Orders
pub mod Sends
