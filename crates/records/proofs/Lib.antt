-- Laws of roles.
pub mod Roles
