-- How a return of code meets the promise, and what the promise fixes.
pub mod Doing
pub mod Determined
pub mod Pages
