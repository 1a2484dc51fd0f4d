pub mod Scheme
pub mod Examples
pub mod Internal
