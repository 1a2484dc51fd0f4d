pub mod Answers
pub mod OverImage
