pub mod Opened
pub mod Internal
