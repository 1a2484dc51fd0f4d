pub mod Ranged
pub mod Parts
pub mod Passed
