pub mod Books
pub mod Laws
pub mod Looks
pub mod Sending
pub mod Shared
pub mod Turns
