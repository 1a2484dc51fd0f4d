pub mod Zeroizing
pub mod Slotted
pub mod Slots
pub mod Order
pub mod Sheets
pub mod Lent
pub mod Ranges
pub mod Loads
