-- Laws of the page: what the cells that code takes from the tables say of the log in them.
pub mod Slots
pub mod Pages
