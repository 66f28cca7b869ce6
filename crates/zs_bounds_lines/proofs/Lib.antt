pub mod PolicyLemmas
pub mod TextLemmas
pub mod Endings
pub mod WordLemmas
pub mod WeightLemmas
