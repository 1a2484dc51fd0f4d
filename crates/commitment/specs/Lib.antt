pub mod Commitment
pub mod Loaded
pub mod Parameters
pub mod Internal
