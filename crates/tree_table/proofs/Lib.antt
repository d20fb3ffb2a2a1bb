pub mod WholeLeaf
mod Refused
pub mod Neither
mod Rebuilding
pub mod SinglePages
pub mod SameRows
pub mod LeafTrees
mod Holes
mod Staying
mod Inserted
mod Descents
mod Locals
mod Refusing
mod TwoFans
mod Merging
mod Pairs
mod MergedTrees
mod Joined
mod RunLists
mod RunRows
mod RunLeaves
mod NewCells
mod RunFrees
mod RunPlaces
mod RunMade
mod PutLeaf
mod TakenRows
mod ComingAgain
mod Replaced
mod ChangedRuns
mod Narrowing
mod TakingOver
mod Lowered
mod Settled
mod Trimmed
mod Exits
mod KidCells
mod Openings
mod Gatherings
mod Flattened
mod StoredTops
mod Widening
mod Fans
mod Stepped
mod Roots
mod Putting
mod Sums
mod Leaves
mod Starts
mod Few
mod Branches
mod Cutting
mod Growth
mod Planting
mod Passing
pub mod Orders
pub mod KeptTrees
pub mod StepsDown
pub mod Stayed
pub mod WaysDown
pub mod Coming
pub mod LeafRows
pub mod FoundRows
mod Batches
mod ShortRows
mod Scans
mod Batching
mod Lasts
mod Emptied
mod Pieces
mod Givings
mod Clearing
mod OneTrees
mod RewrittenRows
mod RewrittenLeaves
mod RowsInPlace
