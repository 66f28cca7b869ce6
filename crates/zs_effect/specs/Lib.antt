-- Named by public clauses: a reader who relies on a clause has to believe what it names.
pub mod Scripts
pub mod Attempts
