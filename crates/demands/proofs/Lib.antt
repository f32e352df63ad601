-- The three demands. Each file's theorems are stated over the promises of the public functions; Following is on the way to the third; PageRead says what a page of records shows.
pub mod Demand1
pub mod Demand2
pub mod Following
pub mod PageRead
pub mod Demand3
