pub mod Apart
pub mod Laws
pub mod Lists
pub mod Numbers
pub mod Refusals
pub mod Replies
pub mod TwosComplement
