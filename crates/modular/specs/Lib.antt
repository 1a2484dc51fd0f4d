pub mod Modulo
pub mod Division
pub mod Roots
pub mod Internal
