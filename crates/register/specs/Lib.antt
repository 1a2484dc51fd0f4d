pub mod Register
pub mod Orders
pub mod Internal
