pub mod Outcome
pub mod Transforms
