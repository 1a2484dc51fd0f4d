pub mod LentParts
pub mod WrittenParts
