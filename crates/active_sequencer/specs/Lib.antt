pub mod Orders
pub mod Sequences
