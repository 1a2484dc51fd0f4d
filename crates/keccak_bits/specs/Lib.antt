pub mod Bits
pub mod Sponge
pub mod Internal
