pub mod Progress
pub mod Limits
