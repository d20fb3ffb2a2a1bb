-- Items of lists of terms.
use Rattle.std.proofs.Common.{ℕ, ◌<◌, List, length, get_or}
use Rattle.query_terms.specs.Terms.{Term, size, size_in, terms}
use Rattle.query_terms.proofs.Items as below

-- an item is smaller than the list
pub item_falls : (es : List Term) (i : ℕ) (d : Term) → i < length es → size (get_or es i d) < size_in (terms es)
item_falls = below.item_falls
