pub mod Does
pub mod Answers
pub mod Calls
pub mod Texts
