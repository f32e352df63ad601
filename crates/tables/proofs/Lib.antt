-- What joins tables to ledgers: the parts of tables that a ledger lies in (Laid), and how those are read row by row (Rows).
pub mod Laid
pub mod Rows
pub mod Fits
pub mod Views
pub mod Relaid
pub mod Once
pub mod Indexed
pub mod Stored
pub mod Seeks
pub mod Within
