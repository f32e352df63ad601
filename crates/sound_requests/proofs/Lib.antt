-- Laws that the proofs of the tests cite.
pub mod Texts
