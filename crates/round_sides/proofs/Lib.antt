pub mod Beyond
pub mod Passed
