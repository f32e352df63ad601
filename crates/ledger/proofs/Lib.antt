-- Laws that the proofs of the public functions cite.
pub mod Checked
pub mod Opened
pub mod Pages
