pub mod Draw
pub mod Digests
