pub mod Session
pub mod Steps
pub mod Machine
pub mod Internal
