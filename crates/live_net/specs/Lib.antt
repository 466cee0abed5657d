pub mod Callers
pub mod Doors
