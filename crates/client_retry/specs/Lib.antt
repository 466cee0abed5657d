pub mod Meanings
pub mod Attempts
pub mod Invocations
pub mod Clients
pub mod Counters
pub mod Laws
