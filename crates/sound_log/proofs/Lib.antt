-- Laws that the proofs of the tests cite, here and in the crates above.
pub mod Tallied
