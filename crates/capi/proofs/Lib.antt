-- Laws that the proofs of the entries cite, and what the entries' promises fix.
pub mod Telling
pub mod Showing
pub mod Fixed
pub mod Refused
