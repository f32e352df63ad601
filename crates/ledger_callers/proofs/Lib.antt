-- Laws of authentication, as code reads it from the tables.
pub mod Authentication
