-- What the clauses of callers name, and so what has to be believed.
pub mod Policies
pub mod BoundsLines
pub mod Ending
pub mod Status
pub mod Words
-- What the bodies store: private contracts alone name these.
pub mod Steps
