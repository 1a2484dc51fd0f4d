pub mod Sums
pub mod Coefficients
pub mod Polynomials
pub mod Sizes
pub mod Bridge
pub mod Ranges
pub mod Filling
pub mod Parts
