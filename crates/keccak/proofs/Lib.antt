pub mod Rotation
pub mod Rows
pub mod Bits
pub mod Complement
pub mod Flips
pub mod Lanes
pub mod Shape
