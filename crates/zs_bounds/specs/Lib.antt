-- What the clauses of callers name, and so what has to be believed.
pub mod Driven
pub mod Bounds
pub mod Drawn
pub mod Calls
-- What `bounds` computes. `bounds_hold` ties it to `Bounds`, so no reader has to believe it.
pub mod Span
pub mod DecisionRange
pub mod OutputRange
pub mod AnswerRange
pub mod StateRange
pub mod LatestStep
pub mod BoundsOf
pub mod WithinOf
-- What the bodies store: private contracts alone name these.
pub mod OutRange
pub mod Leaf
pub mod Node
pub mod Place
pub mod Sizes
