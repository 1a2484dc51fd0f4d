pub mod Vector
pub mod Permutation
pub mod Internal
