pub mod Order
pub mod Numbers
pub mod Held
pub mod Outcome
pub mod Laws
