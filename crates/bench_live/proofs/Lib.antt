pub mod Going
pub mod Sending
