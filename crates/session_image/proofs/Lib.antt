pub mod Law
pub mod Pieces
pub mod Over
