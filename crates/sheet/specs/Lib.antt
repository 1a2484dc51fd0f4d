pub mod Form
pub mod Reader
pub mod Sheet
pub mod Examples
pub mod Calls
pub mod Internal
