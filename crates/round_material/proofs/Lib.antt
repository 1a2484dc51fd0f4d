pub mod Cuts
pub mod Quiet
pub mod Sequence
pub mod Walking
pub mod Passed
