-- What the clauses of callers name, and so what has to be believed.
pub mod Tree
pub mod Refusals
pub mod Shapes
pub mod Jobs
pub mod Plan
pub mod PlanView
pub mod Head
pub mod HeadView
pub mod Names
pub mod Lawful
pub mod Lines
pub mod Report
pub mod ReportView
pub mod PlanReport
pub mod Distinct
pub mod ReportLaws
pub mod Status
pub mod Marked
pub mod Headline
-- Invariants of bodies: only private contracts name these.
pub mod ShapeViews
pub mod Streams
pub mod PlanReads
