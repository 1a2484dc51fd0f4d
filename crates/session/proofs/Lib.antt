pub mod Stepping
pub mod GatheringTests
pub mod CountingTests
pub mod CheckTests
