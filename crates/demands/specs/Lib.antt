pub mod Runs
pub mod Walked
