pub mod Laws
pub mod Posts
