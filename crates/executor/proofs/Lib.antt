pub mod Calm
pub mod AddedRows
mod AfterRows
pub mod Answering
pub mod Creations
pub mod Deletions
pub mod Droppings
pub mod FoundTables
pub mod GivenQueries
pub mod HeldTrees
pub mod IndexCreations
pub mod IndexDroppings
pub mod IndexListings
pub mod Insertions
pub mod KeyCreations
pub mod KeyIndexes
mod KeptTexts
mod KnownSources
mod ViewCreations
mod ViewDroppings
mod TriggerCreations
mod TriggerDroppings
mod TriggerRows
pub mod Targets
pub mod Splitting
pub mod LoadedSources
pub mod NewNames
pub mod Owners
pub mod Replacing
pub mod Roots
pub mod SchemaRows
mod IndexTrees
mod NeededRows
pub mod StreamedRows
pub mod Telling
pub mod Updates
pub mod WrittenRows
pub mod SchemaTaking
mod Wide
mod RefusedViews
mod ViewRows
mod AllRows
mod LiteralSets
mod PlacesByColumn
mod RowsInStores
mod SeenViews
pub mod ShownViews
mod SingleRows
mod StoredAgain
