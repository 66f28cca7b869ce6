-- Named by public clauses: a reader who relies on a clause has to believe what it names.
pub mod Saturating
pub mod Output
pub mod Schedule
pub mod OutputKind
pub mod Kinds
pub mod Number
pub mod Token
pub mod Grammar
pub mod Causes
pub mod Canonical
pub mod Laws
pub mod Places
pub mod OutputText
-- How `read` computes its verdict. The law `verdict_is_the_one` ties it to `Grammar` and `Causes`,
-- so a reader needn't believe it.
pub mod Machine
pub mod Verdict
-- What the code stores. Only private contracts name these.
pub mod ScheduleCode
pub mod Scan
pub mod Parts
pub mod Shape
pub mod Outline
pub mod Totals
pub mod Reading
