-- What is true of the machine: opening and each change keep the ledger sound (Keep), what the source's contracts leave open is closed (Gaps, Pages), document 01's
-- examples hold (Examples). The rest is on the way.
pub mod Bools
pub mod Plans
pub mod Look
pub mod KeepRoll
pub mod KeepRooms
pub mod KeepJudged
pub mod KeepCounted
pub mod Keep
pub mod Live
pub mod Pages
pub mod Gaps
pub mod Examples
