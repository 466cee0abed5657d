pub mod Catching
