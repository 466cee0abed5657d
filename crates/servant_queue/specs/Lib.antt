pub mod Operations
pub mod Queue
pub mod Laws
