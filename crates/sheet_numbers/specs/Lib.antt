pub mod Bounds
pub mod Plain
pub mod Rules
pub mod Ranges
pub mod Internal
