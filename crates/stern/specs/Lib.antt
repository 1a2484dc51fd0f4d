pub mod Argument
pub mod Shortness
pub mod Claims
pub mod Internal
