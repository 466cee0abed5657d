pub mod Bodies
pub mod Gates
