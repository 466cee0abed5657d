pub mod Monitored
