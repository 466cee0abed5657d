pub mod Lists
pub mod Contents
pub mod Finding
pub mod Writing
