pub mod Additive
pub mod Opening
pub mod Steps
pub mod Loading
pub mod Sheets
pub mod Cut
