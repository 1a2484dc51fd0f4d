pub mod Poly
pub mod Slots
pub mod Ternary
pub mod Internal
