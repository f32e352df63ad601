-- What the numbers and rows that code reads of sound tables say of their ledger, and what its stores make of them.
pub mod Cells
pub mod Candidates
pub mod Laying
pub mod Asking
