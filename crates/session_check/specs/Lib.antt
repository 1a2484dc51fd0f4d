pub mod Stored
pub mod Check
pub mod Equations
pub mod Internal
