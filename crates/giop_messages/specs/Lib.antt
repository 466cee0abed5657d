pub mod Faults
pub mod Heads
pub mod Addresses
pub mod Fields
pub mod Messages
pub mod Writing
pub mod Laws
