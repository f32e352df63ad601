-- Laws that the proofs of the tests cite.
pub mod Used
pub mod Grouped
