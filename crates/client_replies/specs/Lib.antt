pub mod Heards
