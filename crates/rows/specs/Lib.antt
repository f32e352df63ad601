pub mod Zeros
pub mod Padded
pub mod Regions
pub mod Apart
pub mod Finds
