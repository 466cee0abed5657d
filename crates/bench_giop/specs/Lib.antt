pub mod Deposits
