pub mod NameEnds
pub mod Ordering
pub mod PageSizeLemmas
pub mod NumberLemmas
pub mod StableSorts
