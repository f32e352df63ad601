pub mod Faults
pub mod Numbers
pub mod Reader
pub mod Fields
pub mod Parts
