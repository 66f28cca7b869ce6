-- Named by public clauses: a reader who relies on a clause has to believe what it names.
pub mod Times
pub mod Answers
-- What the code stores. Only private contracts name these.
pub mod Slots
pub mod Rounds
pub mod Engine
