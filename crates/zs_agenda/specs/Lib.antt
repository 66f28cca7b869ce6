-- Named by public clauses: a reader who relies on a clause has to believe what it names.
pub mod Ticks
pub mod Tests
pub mod Timers
-- What the code stores. Only private contracts, and the views and invariants of models, name these.
pub mod Sources
pub mod Indexes
