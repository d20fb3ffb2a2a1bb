-- What a page of a table's tree leads to by a rowid.
use Rattle.std.specs.Prelude.{◌≡◌, ◌<◌, ℕ, zero, suc, ℤ, List, [], ◌∷◌, length, map, slice_index_or, Some, Result, MatchResult}
use Rattle.sqlval.specs.declared.fault.Fault.{Fault}
use Rattle.sqlval.specs.Faults.{IsOutside}
use Rattle.pages.specs.Map.{PageMap, AreWhole}
use Rattle.tree_page.specs.Node.{Local, Node, Rows, Keys, Entries, Between, IsNode}
use Rattle.tree_page.specs.Reading.{Place, numbers_of, NeverFall, below}
use Rattle.tree_store.specs.Saying.{Says}
use Rattle.tree_table.specs.declared.descending.Step.{Step}
use Rattle.tree_table.specs.declared.descending.Step.TheVariants.{Found, Here, Down}

-- the child at a place, or the last one behind all cells
abbrev pub child_at : ℕ → List (ℕ × ℤ) → ℕ → ℕ
child_at place [] last = last
child_at zero (kid ∷ kids) last = kid.0
child_at (suc place) (kid ∷ kids) last = child_at place kids last

-- the child at a place is found
abbrev pub FindsChild : Place → ℕ → Result ℕ Fault → Type 0
FindsChild page place result = (kids : List (ℕ × ℤ)) (last : ℕ) → IsNode page.bytes page.start (Keys kids last)
    → MatchResult result (λ child. child ≡ child_at place kids last) (λ fault. ⊥)

-- how many rows of a leaf have a less rowid
abbrev pub before : ℤ → List (ℤ × Local) → ℕ
before rowid rows = below rowid (map (λ row. row.0) rows)

-- the row at a place has this rowid
pub record HasRowid (rowid : ℤ) (rows : List (ℤ × Local)) (place : ℕ) : Type 0 where
  pub within : place < length rows
  pub same : (d : ℤ × Local) → (slice_index_or rows place d).0 ≡ rowid

-- The way to a rowid goes on so: it ends at the first row of a leaf that isn't less, or behind all; on an interior page it goes on
-- to the child of the first key that isn't less, or to the last child.
abbrev pub IsStep : ℤ → Node → Step → Type 0
IsStep rowid (Rows rows) (Found place) = (place ≡ before rowid rows) × HasRowid rowid rows place
IsStep rowid (Rows rows) (Here place) = (place ≡ before rowid rows) × (HasRowid rowid rows place → ⊥)
IsStep rowid (Rows rows) (Down place child) = ⊥
IsStep rowid (Keys kids last) (Found place) = ⊥
IsStep rowid (Keys kids last) (Here place) = ⊥
IsStep rowid (Keys kids last) (Down place child) = (place ≡ below rowid (map (λ kid. kid.1) kids)) × (child ≡ child_at place kids last)
IsStep rowid (Entries entries) step = ⊥
IsStep rowid (Between kids last) step = ⊥

-- where the bytes are those of a page of a table, whose numbers don't fall, it is found how the way goes on
abbrev pub LooksUp : List ℕ → ℕ → ℤ → Result Step Fault → Type 0
LooksUp bytes start rowid result = (node : Node) (numbers : List ℤ) → IsNode bytes start node → numbers_of node ≡ Some numbers
    → NeverFall numbers
    → MatchResult result (IsStep rowid node) (λ fault. ⊥)

-- the same of a page by its number; or memory was short, or a disk's call failed
abbrev pub StepsFrom : PageMap → ℕ → ℕ → ℤ → Result Step Fault → Type 0
StepsFrom map size number rowid result = (node : Node) (numbers : List ℤ) → AreWhole size map → Says map number node
    → numbers_of node ≡ Some numbers → NeverFall numbers
    → MatchResult result (IsStep rowid node) IsOutside
