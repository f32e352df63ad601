-- Laws of the command file.
pub mod Outer
pub mod Takes
pub mod Opened
pub mod Progress
pub mod Texts
pub mod Written
pub mod Example
pub mod First
pub mod Sizes
pub mod Determined
