pub mod Appending
pub mod Decimal
pub mod Short
pub mod Numbered
