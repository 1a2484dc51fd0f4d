pub mod First
pub mod Second
pub mod Replies
pub mod Internal
