pub mod Range
pub mod Laws
pub mod Parts
pub mod Drawn
