pub mod Testing
pub mod Passing
pub mod Written
pub mod Promises
