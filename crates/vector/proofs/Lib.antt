pub mod Vectors
pub mod Counts
pub mod Balance
pub mod Linear
pub mod Gathers
pub mod Marks
