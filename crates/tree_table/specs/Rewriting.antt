-- Rows whose payloads are written over others that are as long (Database File Format, "B-tree Pages", table leaf cells).
use Rattle.std.specs.Prelude.{◌≡◌, ◌≤◌, ◌<◌, ◌-◌, ℕ, ℤ, Bool, IsTrue, List, [], ◌∷◌, length, map, take, slice_index_or, Option, Some, None, Result, IfOk, IfSome}
use Rattle.std.specs.Global.{Vec}
use Rattle.std.specs.List.{AllByRecursion}
use Rattle.sqlval.specs.declared.fault.Fault.{Fault}
use Rattle.tree_page.specs.Cells.{Pairwise}
use Rattle.tree_page.specs.Node.{Local, Rows, IsNode, IsRowCell}
use Rattle.tree_pack.specs.Placing.{IsPlaced}
use Rattle.tree_pack.specs.Rewriting.{whole, IsRewritten}
use Rattle.tree_pack.specs.declared.spreading.Packed.{Packed}
use Rattle.tree_table.specs.Runs.{IsRun, exchanged}
use Rattle.tree_table.specs.declared.changing.RowChange.{RowChange}

-- what the cell says of the row that a change leaves, where its payload lies whole there
abbrev pub said_for : RowChange → List (ℤ × Local)
said_for change = elim change.payload [ None ↦ [] | Some payload ↦ (change.rowid, whole payload.items) ∷ [] ]

-- the cell says the row that a change leaves, on a page of this size, with its whole payload
pub record IsLaid (size : ℕ) (change : RowChange) (cell : List ℕ) : Type 0 where
  pub payload : Vec ℕ
  pub is : change.payload ≡ Some payload
  pub short : length payload.items ≤ size - 35
  pub says : IsRowCell size cell (change.rowid, whole payload.items)

-- each cell in a list of its own
abbrev pub singly : List (List ℕ) → List (List (List ℕ))
singly cells = map (λ cell. cell ∷ []) cells

-- The rows of a leaf at these places are those that these changes leave. Before and now their payloads lie whole in their cells, and all else
-- is as it was.
pub record AreRewritten (page : List ℕ) (start : ℕ) (said : List (ℤ × Local)) (is : IsNode page start (Rows said)) (places : List ℕ) (changes : List RowChange) (new : List ℕ) : Type 0 where
  pub cells : List (List ℕ)
  pub laid : Pairwise (IsLaid (length page)) changes cells
  pub short : AllByRecursion (λ place. (d : ℤ × Local) → (slice_index_or said place d).1.size ≤ length page - 35) places
  pub placed : IsPlaced page start (exchanged 0 places (singly cells) is.cells) (Rows (exchanged 0 places (map said_for changes) said)) new

-- the payload that the change gives is written over that of the row at a place
abbrev pub RewritesOne : List ℕ → ℕ → ℕ → RowChange → Bool → List ℕ → Type 0
RewritesOne page start place change result new = (said : List (ℤ × Local)) (is : IsNode page start (Rows said)) → place < length is.cells → IsTrue result
    → (payload : Vec ℕ) × (change.payload ≡ Some payload) × IsRewritten page start said is place payload.items new

-- where the rows at these places of a leaf are those of the first changes, a page that is answered has them rewritten
abbrev pub Rewrites : List ℕ → ℕ → List ℕ → List RowChange → Result (Option Packed) Fault → Type 0
Rewrites page start places changes result = (said : List (ℤ × Local)) (is : IsNode page start (Rows said)) → IsRun 0 said changes places
    → IfOk result (λ answer. IfSome answer (λ packed. (packed.pieces.items ≡ []) × AreRewritten page start said is places (take (length places) changes) packed.last.items))
