-- The way from a tree's root down to the leaf where a rowid belongs.
use Rattle.std.specs.Prelude.{◌≡◌, ◌↔◌, Bool, IsTrue, ℕ, ℤ, ◌<ℤ◌, ◌≤ℤ◌, int_lt, List, [], ◌∷◌, ◌++◌, length, map, slice_index_or, ◌<◌, if◌then◌else◌, ⊤, Option, Some, None, MatchOption, Result, MatchResult}
use Rattle.std.specs.List.{AllByRecursion}
use Rattle.sqlval.specs.Faults.{IsOutside}
use Rattle.sqlval.specs.declared.fault.Fault.{Fault}
use Rattle.tree_leaf.specs.Leaf.{Entry}
use Rattle.pages.specs.Map.{PageMap, AreWhole}
use Rattle.tree_page.specs.Node.{Node, Rows, Keys, Entries, Between}
use Rattle.tree_page.specs.Reading.{NeverFall, below, numbers_of}
use Rattle.tree_store.specs.Saying.{Says}
use Rattle.tree_table.specs.Rows.{last_rowid}
use Rattle.tree_table.specs.Tree.{Held, Leaf, Tree, top, rows_of, IsSorted, IsLeaf, Lies, IsTableTree}
use Rattle.tree_table.specs.declared.way.End.{End}
use Rattle.tree_table.specs.declared.way.Way.{Way}
use Rattle.tree_table.specs.declared.way.Step.{Step}
use Rattle.tree_table.specs.declared.way.Step.TheVariants.{AtLeaf, Down}

-- ---- a page

-- the child where a rowid belongs: that of the first key that isn't less, or the last child
abbrev pub child_for : ℤ → List (ℕ × ℤ) → ℕ → ℕ
child_for rowid [] last = last
child_for rowid (kid ∷ kids) last = if int_lt kid.1 rowid then child_for rowid kids last else kid.0

-- the key on the left of that child, or what stood on the left of the page
abbrev pub left_for : ℤ → Option ℤ → List (ℕ × ℤ) → Option ℤ
left_for rowid left [] = left
left_for rowid left (kid ∷ kids) = if int_lt kid.1 rowid then left_for rowid (Some kid.1) kids else left

-- the key on its right, or what stood on the right of the page
abbrev pub right_for : ℤ → Option ℤ → List (ℕ × ℤ) → Option ℤ
right_for rowid right [] = right
right_for rowid right (kid ∷ kids) = if int_lt kid.1 rowid then right_for rowid right kids else Some kid.1

-- the way goes on to that child
abbrev pub way_for : ℤ → Way → List (ℕ × ℤ) → ℕ → Way
way_for rowid way kids last = record { page = child_for rowid kids last; left = left_for rowid way.left kids; right = right_for rowid way.right kids }

-- where the way goes on from a page that says this: at a leaf it ends, with the first place whose rowid isn't less
abbrev pub step_for : ℤ → Way → Node → Step
step_for rowid way (Rows rows) = AtLeaf (below rowid (map (λ row. row.0) rows))
step_for rowid way (Keys kids last) = Down (way_for rowid way kids last)
step_for rowid way (Entries entries) = AtLeaf 0
step_for rowid way (Between kids last) = AtLeaf 0

-- the rowid is greater than the key on the left, and at most that on the right
abbrev pub IsAbout : ℤ → Way → Type 0
IsAbout rowid way = MatchOption way.left ⊤ (λ key. key <ℤ rowid) × MatchOption way.right ⊤ (λ key. rowid ≤ℤ key)

-- where a step leads down, the rowid belongs there
abbrev pub IsStepAbout : ℤ → Step → Type 0
IsStepAbout rowid (AtLeaf place) = ⊤
IsStepAbout rowid (Down way) = IsAbout rowid way

-- where the page of a way says something of a table, and the keys and the way are sound, the step was found; or memory was short, or a disk's
-- call failed
abbrev pub FindsStep : PageMap → ℕ → Way → ℤ → Result Step Fault → Type 0
FindsStep pages size way rowid result = (node : Node) (numbers : List ℤ) → AreWhole size pages → Says pages way.page node → numbers_of node ≡ Some numbers → NeverFall numbers
    → IsStepAbout rowid (step_for rowid way node) → MatchResult result (λ step. step ≡ step_for rowid way node) IsOutside

-- ---- a tree

-- on the left stand no rows, or rows up to a key that is less than the rowid
abbrev pub IsLeft : ℤ → Option ℤ → ℤ → List Entry → Type 0
IsLeft rowid left low front = MatchOption left (front ≡ []) (λ key. (key ≡ low) × (key <ℤ rowid))

-- on the right stand no rows, or rows above a key that isn't less than the rowid
abbrev pub IsRight : ℤ → Option ℤ → ℤ → List Entry → Type 0
IsRight rowid right high after = MatchOption right (after ≡ []) (λ key. (key ≡ high) × (rowid ≤ℤ key))

-- Under the page of a way stands the part of a tree of these rows where a rowid belongs, other rows to its left and right.
pub record IsUnder (pages : PageMap) (size : ℕ) (rowid : ℤ) (rows : List Entry) (depth : ℕ) (way : Way) : Type 0 where
  pub t : Tree depth
  pub low : ℤ
  pub high : ℤ
  pub front : List Entry
  pub after : List Entry
  pub at : top depth t ≡ way.page
  pub lies : Lies pages size depth t
  pub sorted : IsSorted depth low t high
  pub rows_are : rows ≡ front ++ (rows_of depth t ++ after)
  pub front_is : AllByRecursion (λ row. row.rowid ≤ℤ low) front
  pub after_is : AllByRecursion (λ row. high <ℤ row.rowid) after
  pub left_is : IsLeft rowid way.left low front
  pub right_is : IsRight rowid way.right high after

-- the rowids of a leaf's rows
abbrev pub rowids : List Held → List ℤ
rowids rows = map (λ held. held.row.rowid) rows

-- A way has ended at a leaf, at the first place whose rowid isn't less.
pub record IsEnd (pages : PageMap) (size : ℕ) (rowid : ℤ) (rows : List Entry) (end : End) : Type 0 where
  pub under : IsUnder pages size rowid rows 0 end.way
  pub place : end.place ≡ below rowid (rowids under.t.rows)

-- in a tree the leaf is found where a rowid belongs; or memory was short, or a disk's call failed
abbrev pub FindsLeaf : PageMap → ℕ → ℕ → ℤ → Result End Fault → Type 0
FindsLeaf pages size root rowid result = (rows : List Entry) (used : List ℕ) → AreWhole size pages → IsTableTree pages size root rows used
    → MatchResult result (IsEnd pages size rowid rows) IsOutside

-- ---- the rows of a leaf

-- the rows of a leaf were counted; or memory was short, or a disk's call failed
abbrev pub CountsRows : PageMap → ℕ → ℕ → Result ℕ Fault → Type 0
CountsRows pages size page result = (leaf : Leaf) → AreWhole size pages → IsLeaf pages size leaf → leaf.page ≡ page
    → MatchResult result (λ count. count ≡ length leaf.rows) IsOutside

-- the last of these numbers
abbrev pub last_of_numbers : List ℤ → Option ℤ
last_of_numbers [] = None
last_of_numbers (number ∷ []) = Some number
last_of_numbers (number ∷ next ∷ numbers) = last_of_numbers (next ∷ numbers)

-- the rowid of the last row of a leaf was found; or memory was short, or a disk's call failed
abbrev pub FindsLastRow : PageMap → ℕ → ℕ → Result (Option ℤ) Fault → Type 0
FindsLastRow pages size page result = (leaf : Leaf) → AreWhole size pages → IsLeaf pages size leaf → leaf.page ≡ page
    → MatchResult result (λ rowid. rowid ≡ last_rowid (map (λ held. held.row) leaf.rows)) IsOutside

-- where a leaf has a row at this place, its rowid was found, and its payload stands behind what stood there before
abbrev pub ReadsRow : PageMap → ℕ → ℕ → ℕ → List ℕ → List ℕ → Result ℤ Fault → Type 0
ReadsRow pages size page place before after result = (leaf : Leaf) (d : Held) → AreWhole size pages → IsLeaf pages size leaf → leaf.page ≡ page → place < length leaf.rows
    → MatchResult result (λ rowid. (rowid ≡ (slice_index_or leaf.rows place d).row.rowid) × (after ≡ before ++ (slice_index_or leaf.rows place d).row.payload)) IsOutside

-- whether a leaf's row at a place has this rowid
abbrev pub IsRowAt : List ℤ → ℕ → ℤ → Bool → Type 0
IsRowAt numbers place rowid there = IsTrue there ↔ ((place < length numbers) × ((d : ℤ) → slice_index_or numbers place d ≡ rowid))

-- it was found whether a leaf's row at a place has this rowid; or memory was short, or a disk's call failed
abbrev pub FindsRowid : PageMap → ℕ → ℕ → ℕ → ℤ → Result Bool Fault → Type 0
FindsRowid pages size page place rowid result = (leaf : Leaf) → AreWhole size pages → IsLeaf pages size leaf → leaf.page ≡ page
    → MatchResult result (IsRowAt (rowids leaf.rows) place rowid) IsOutside
