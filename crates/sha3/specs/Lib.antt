pub mod Absorb
pub mod Digest
pub mod Fips
pub mod Sponge
pub mod Internal
