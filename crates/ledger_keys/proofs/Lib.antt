-- What the tests and stores of a registration say of the ledger in the tables.
pub mod Counted
pub mod Adding
