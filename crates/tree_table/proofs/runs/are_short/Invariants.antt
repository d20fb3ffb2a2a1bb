-- the rows at the places up to here are short
use Rattle.std.proofs.Common.{◌≤◌, ◌<◌, ℕ, ℤ, List, length, slice_index_or}
use Rattle.pages.specs.Counting.{start_of}
use Rattle.tree_page.specs.Node.{Local, Rows, IsNode}
use Rattle.tree_table.proofs.runs.are_short.Given as goal

abbrev pub invariant-places : goal.invariant-places
invariant-places l = (said : List (ℤ × Local)) (d : ℤ × Local) → IsNode l.bytes (start_of l.leaf) (Rows said)
    → (i : ℕ) → i < l.place-index → slice_index_or l.places i 0 < length said → (slice_index_or said (slice_index_or l.places i 0) d).1.size ≤ l.most
