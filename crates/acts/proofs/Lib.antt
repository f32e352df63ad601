pub mod Telling
pub mod Few
