pub mod Subscribers
pub mod Calls
pub mod Firsts
pub mod Pictures
pub mod Filing
