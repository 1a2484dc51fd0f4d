pub mod Tested
pub mod Ready
pub mod Extracted
pub mod Given
