pub mod Approvals
