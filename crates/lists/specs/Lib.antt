pub mod Places
pub mod Tallies
