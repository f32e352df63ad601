-- Laws that the proofs of the tests cite.
pub mod Forces
pub mod Agreed
pub mod Waiting
