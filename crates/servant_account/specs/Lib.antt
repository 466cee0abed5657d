pub mod Operations
pub mod Account
pub mod Laws
