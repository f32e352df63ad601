pub mod Authenticates
