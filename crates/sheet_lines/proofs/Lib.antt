pub mod Steps
pub mod LineForm
pub mod Scanning
pub mod Blocks
