-- Laws of tables, which this crate's proofs and those of the crates above cite.
pub mod Padded
pub mod Zeros
pub mod Written
pub mod Regions
pub mod Apart
pub mod Firsts
pub mod Keys
