pub mod Clients
pub mod Happenings
pub mod Pictures
pub mod Laws
