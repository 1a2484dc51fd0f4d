pub mod Form
pub mod Round
pub mod Ballot
pub mod Sheets
pub mod Steps
pub mod Votes
