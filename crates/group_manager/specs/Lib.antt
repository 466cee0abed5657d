pub mod Directory
pub mod Managing
