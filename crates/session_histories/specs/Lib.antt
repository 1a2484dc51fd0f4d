pub mod Runs
pub mod Sheets
pub mod Conditions
pub mod Claims
pub mod Bound
pub mod Internal
pub mod Examples
pub mod Elections
