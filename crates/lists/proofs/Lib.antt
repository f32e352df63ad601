-- Laws of lists by their places, of tallies, and of both under a map.
pub mod Places
pub mod Tallies
pub mod Maps
pub mod Getting
pub mod Tabs
