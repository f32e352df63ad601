-- Laws of the reads: what the cells that code takes from the tables say of the ledger in them.
pub mod Decided
pub mod Requested
pub mod Ended
