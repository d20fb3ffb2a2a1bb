mod Among
mod Clashing
mod Deleted
mod Dropped
mod Indexed
mod KeptAlone
mod LookedAt
mod SeenApart
mod InsertedRows
pub mod Looping
pub mod Needed
mod OneRows
mod Owned
pub mod PutRows
mod RisenKeys
mod SetShuffles
mod Shuffling
mod Sides
mod TakenRow
mod TurnedRows
mod Updated
mod Widths
