pub mod Least
pub mod Ranges
