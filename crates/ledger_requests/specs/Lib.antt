pub mod Candidates
pub mod Recorded
pub mod Stores
