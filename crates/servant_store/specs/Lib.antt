pub mod Sayings
pub mod Operations
pub mod Store
pub mod Views
pub mod PairLaws
pub mod Laws
