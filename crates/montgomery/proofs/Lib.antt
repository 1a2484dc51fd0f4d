pub mod Reduction
pub mod Inverses
