mod GivenRows
mod NamedChanges
mod SeenRows
mod SetPairs
