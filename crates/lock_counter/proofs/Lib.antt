mod CountLemmas
pub mod Sending
