pub mod EntryRows
pub mod Neither
pub mod Staying
pub mod LastEntries
mod Fillings
mod Readings
mod Comparisons
mod Lying
pub mod Orders
mod Halving
mod Shares
mod Subtrees
mod Givings
mod Clearing
mod Emptied
pub mod Inserts
mod Sums
mod Rows
mod Branches
mod OnLeaves
mod Leaves
mod Fans
mod Within
mod Widening
mod Planting
mod Cutting
mod Growth
mod Rooting
mod KidCells
mod Openings
mod Fourths
mod Gatherings
mod Flattened
mod Plantings
mod StoredTops
mod Batches
mod Without
mod Tops
mod Grown
mod OneLess
mod Going
mod Whole
mod RunOff
mod RunOn
mod Pairs
mod Taken
mod TwoPlans
mod Beside
mod Seams
mod Narrowing
mod Removals
mod Settling
mod TakingOver
mod Merging
mod Dividing
mod Joined
mod Spreading
mod Uniting
mod Depths
mod Removed
