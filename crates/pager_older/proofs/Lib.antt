pub mod FilePaging
pub mod Fronts
pub mod Telling
pub mod VersionLemmas
