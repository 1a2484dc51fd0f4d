pub mod Extraction
pub mod Replies
pub mod Internal
