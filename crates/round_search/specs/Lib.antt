pub mod Finding
pub mod Internal
