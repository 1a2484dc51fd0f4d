pub mod BallotLoop
pub mod OpenedPlaces
pub mod RepetitionLoop
