mod Chosen
mod Deletions
mod Demanded
mod Alone
mod AmongRows
mod Checks
mod FitRows
mod GivenRowid
mod Folding
mod IntoTrees
pub mod KeptRowids
mod OwnPlaces
mod Placed
mod PutRows
mod Records
pub mod Rising
mod RowRows
mod StoredRows
mod StoredValues
pub mod PlacesByName
pub mod GivenAsMeant
pub mod Taken
pub mod Updates
pub mod KeptKeys
pub mod KeptRows
mod SetRows
pub mod Replaced
pub mod SetTrees
pub mod Meant
