pub mod PutLemmas
pub mod FitLemmas
pub mod BuiltLemmas
