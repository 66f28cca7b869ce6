pub mod Histories
pub mod JobBounds
pub mod PlanBounds
