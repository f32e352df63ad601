-- What the tests on the way to a decision say of the ledger in the tables, and what its stores make of them.
pub mod Picked
pub mod Laying
