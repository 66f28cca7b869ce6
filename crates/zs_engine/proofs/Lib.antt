pub mod ClockTicks
pub mod DuePolls
pub mod KeepingUp
pub mod RoundLemmas
pub mod SlotLemmas
pub mod Settling
pub mod Finishing
pub mod EngineLemmas
