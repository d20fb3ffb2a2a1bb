pub mod HeaderLemmas
pub mod SpellingLemmas
pub mod Fronts
