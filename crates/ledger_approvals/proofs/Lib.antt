-- What the tests and stores of an approval say of the ledger in the tables.
pub mod Approving
