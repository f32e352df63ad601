pub mod Decimal
pub mod Output
pub mod Lines
pub mod Replies
