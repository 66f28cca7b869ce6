-- Named by public clauses: a reader who relies on a clause has to believe what it names.
pub mod History
pub mod Answer
pub mod Evaluation
pub mod Visits
pub mod Intervals
pub mod LeafState
pub mod Collected
pub mod State
pub mod Compiled
pub mod Memory
pub mod Laws
-- What the code stores. Only private contracts name these.
pub mod Numbers
pub mod Stepping
