pub mod Answering
pub mod OpeningParts
pub mod Produced
