pub mod Nil
pub mod References
pub mod Spelled
