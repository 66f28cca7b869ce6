pub mod ByteLemmas
pub mod LineLemmas
