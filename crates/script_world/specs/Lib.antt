pub mod World
pub mod Settings
pub mod Standing
pub mod Sound
pub mod Worlds
pub mod Made
pub mod Counting
pub mod Names
