pub mod Entries
pub mod Ids
