pub mod Digests
pub mod Internal
