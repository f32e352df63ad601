-- What is true of a history. Theorems of document 01's last section: Statuses, Registrations, Pending, Decisions, Replay, Final, Walk. Of hist.rs and inv.rs:
-- Grows, Hist, Duties, Timed, Phi. Induction and Exec are how they are proved.
pub mod Induction
pub mod Statuses
pub mod Registrations
pub mod Pending
pub mod Replay
pub mod Decisions
pub mod Exec
pub mod Grows
pub mod Final
pub mod Hist
pub mod Duties
pub mod Timed
pub mod Phi
pub mod Walk
