pub mod Groups
pub mod Checks
