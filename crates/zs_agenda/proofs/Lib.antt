pub mod IndexLemmas
mod TakeLemmas
pub mod TestLemmas
pub mod TickLemmas
mod WorkedTicks
