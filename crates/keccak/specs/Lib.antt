pub mod Steps
pub mod Table
pub mod Keccak
pub mod Tables
pub mod Internal
