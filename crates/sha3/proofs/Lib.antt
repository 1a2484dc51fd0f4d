pub mod Absorbing
pub mod Blocks
pub mod Lanes
pub mod Inside
pub mod Fips
pub mod Padding
pub mod Parts
pub mod Squeezing
