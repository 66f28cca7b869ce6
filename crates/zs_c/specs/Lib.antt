-- Named by public clauses: a reader who relies on a clause has to believe what it names.
pub mod Numbers
pub mod Words
pub mod Refusals
pub mod Told
pub mod Bounded
pub mod FaultText
pub mod Shown
pub mod Code
pub mod Program
pub mod Programs
pub mod Plan
pub mod Planned
-- Named by private contracts only.
pub mod Leaves
pub mod Form
pub mod Opened
pub mod Rooms
pub mod Steps
pub mod View
