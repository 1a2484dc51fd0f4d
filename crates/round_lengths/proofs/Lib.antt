pub mod Zeroized
pub mod Sizes
