pub mod Outcome
pub mod Unknowns
