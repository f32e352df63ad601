-- Laws that the proofs of tests cite, here and in the crates above.
pub mod Flags
