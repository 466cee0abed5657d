pub mod Bytes
pub mod Items
pub mod States
