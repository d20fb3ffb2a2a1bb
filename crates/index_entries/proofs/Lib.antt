mod ReadRows
mod Sorting
mod RowOrder
mod Turning
mod Looping
mod Gone
mod SameValues
mod Replacing
mod Batches
mod Come
pub mod Rows
mod Keys
mod OtherKeys
mod Lookings
mod FirstEntries
mod AloneReplacing
