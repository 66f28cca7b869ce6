-- What the clauses of callers name, and so what has to be believed.
pub mod Population
pub mod Ending
pub mod Sums
pub mod Trailer
pub mod Joining
pub mod Status
pub mod Words
-- What the bodies store: private contracts alone name these.
pub mod Skipped
pub mod Reads
pub mod Parts
pub mod Tails
pub mod Blocks
pub mod JoinProgress
