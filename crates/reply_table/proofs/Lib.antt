pub mod Filed
pub mod Order
