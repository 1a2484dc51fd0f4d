pub mod Bytes
pub mod Lists
pub mod Refusal
pub mod Reply
pub mod Slices
