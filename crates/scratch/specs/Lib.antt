pub mod Call
pub mod Internal
pub mod Vocabulary
