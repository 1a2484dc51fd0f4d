pub mod CommittedPairs
pub mod Drawing
pub mod HeadParts
pub mod Joining
