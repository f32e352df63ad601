-- What the tests and stores of a revocation say of the ledger in the tables.
pub mod Placed
pub mod Revoking
