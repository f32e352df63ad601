-- What the tests and stores of a rejection say of the ledger in the tables.
pub mod Rejecting
