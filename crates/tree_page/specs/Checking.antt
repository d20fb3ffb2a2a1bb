-- Whether a page says something, and which of its bytes its cells take.
use Rattle.std.specs.Prelude.{◌+◌, ◌-◌, ◌*◌, ℕ, zero, suc, List, ◌++◌, length, take, drop, replicate, Bool, true, false, Option, Some, None, slice_range, if◌then◌else◌}
use Rattle.std.specs.List.{list_any}
use Rattle.tree_page.specs.declared.items.Kind.{Kind}
use Rattle.tree_page.specs.Node.{Node, IsNode}
use Rattle.tree_page.specs.Reading.{Place}
use Rattle.tree_page.specs.Bytes.{◌>>=◌, right_size, tail_on, after_cell}

-- the page says something, of its kind
abbrev pub IsSaid : Place → Type 0
IsSaid page = (node : Node) × IsNode page.bytes page.start node

-- ---- which bytes are taken

-- where the pointers of a page end
unfoldable pub front_end : ℕ → Kind × ℕ → ℕ
front_end start header = start + 8 + right_size header.0 + 2 * header.1

-- the first bytes are taken and the others not
abbrev pub taken_up_to : ℕ → ℕ → List Bool
taken_up_to front size = replicate front true ++ replicate (size - front) false

-- which bytes are taken once these are too, of which none was
unfoldable pub claimed : List Bool → ℕ → ℕ → Option (List Bool)
claimed taken from to =
    if list_any (λ byte. byte) (slice_range taken from to) then None
    else Some (take from taken ++ (replicate (to - from) true ++ drop to taken))

-- the offsets where a cell begins and where it ends
abbrev pub ends_on : List ℕ → ℕ → Kind × ℕ → ℕ → Option (ℕ × ℕ)
ends_on page start header index = do
  tail ← tail_on page start header index
  rest ← after_cell header.0 (length page) tail
  Some (length page - length tail, length page - length rest)

-- which bytes are taken once those of so many cells are too, from one index on
abbrev pub claimed_from : List ℕ → ℕ → Kind × ℕ → List Bool → ℕ → ℕ → Option (List Bool)
claimed_from page start header taken index zero = Some taken
claimed_from page start header taken index (suc count) = do
  ends ← ends_on page start header index
  marks ← claimed taken ends.0 ends.1
  claimed_from page start header marks (index + 1) count
