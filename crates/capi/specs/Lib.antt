pub mod Outcomes
pub mod Entries
pub mod Files
