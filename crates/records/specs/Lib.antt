pub mod Letters
pub mod Roles
pub mod Refusals
pub mod Statuses
