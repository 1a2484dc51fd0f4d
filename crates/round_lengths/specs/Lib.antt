pub mod Calls
pub mod Sheets
