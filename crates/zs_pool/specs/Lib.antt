-- Named by public clauses: a reader who relies on a clause has to believe what it names.
pub mod Limits
pub mod Rounds
pub mod Batches
pub mod Messages
pub mod Runs
pub mod Board
pub mod Shelf
pub mod Tally
pub mod Shares
-- What the code stores. Only private contracts, and the views and invariants of models, name these.
pub mod Counter
pub mod Joined
