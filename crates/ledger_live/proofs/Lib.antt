-- Laws of liveness, as code reads it from the tables.
pub mod Lived
