pub mod Tables
pub mod Parts
pub mod Fit
pub mod View
pub mod Once
pub mod Lent
