pub mod Aims
pub mod Calls
pub mod Requests
