pub mod BallotWriting
pub mod ShareAlgebra
pub mod ShareSteps
