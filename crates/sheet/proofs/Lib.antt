pub mod Form
pub mod Fits
pub mod Writing
pub mod Order
pub mod Filling
pub mod Taken
pub mod Examples
pub mod Answers
