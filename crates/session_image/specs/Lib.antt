pub mod Image
pub mod Images
pub mod Internal
