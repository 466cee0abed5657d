pub mod Binding
pub mod Calling
