-- Named by public clauses: a reader who relies on a clause has to believe what it names.
pub mod Clocks
pub mod Values
pub mod Endings
pub mod PollMoments
pub mod Timeline
pub mod Tasks
pub mod DriverRules
pub mod DriverLaws
-- What the code stores. Only private contracts, views and invariants name these.
pub mod Recorded
pub mod Progress
pub mod Turns
pub mod Fields
