-- How the rows of a run are changed, those that stand on one leaf.
use Rattle.std.specs.Prelude.{◌≡◌, ◌≤◌, ◌<◌, ◌+◌, ◌-◌, ℕ, suc, ℤ, pos, Bool, true, false, List, [], ◌∷◌, ◌++◌, length, map, take, drop, min, slice_index_or}
use Rattle.std.specs.Prelude.{Option, Some, None, MatchOption, Result, Ok, Err, MatchResult, ⊤}
use Rattle.std.specs.Global.{Vec}
use Rattle.std.specs.List.{AllByRecursion, flat_map}
use Rattle.sqlval.specs.declared.fault.Fault.{Fault}
use Rattle.sqlval.specs.declared.fault.Fault.TheVariants.{Memory}
use Rattle.sqlval.specs.Faults.{IsOutside}
use Rattle.tree_leaf.specs.Leaf.{Entry}
use Rattle.pages.specs.Calls.{IsOutsideOrFull}
use Rattle.pages.specs.Counting.{Moves}
use Rattle.pages.specs.Map.{PageMap}
use Rattle.freelist.specs.Calls.{AreFree, KeepsHeader}
use Rattle.tree_page.specs.Node.{Local, Node, Rows, IsNode, IsRowCell}
use Rattle.tree_page.specs.Reading.{Place, NeverFall, below}
use Rattle.tree_page.specs.declared.items.Kind.TheVariants.{TableLeaf}
use Rattle.tree_pack.specs.Building.{cell_room}
use Rattle.tree_pack.specs.Packing.{AreOf, Packs}
use Rattle.tree_pack.specs.Parts.{total}
use Rattle.tree_pack.specs.Splicing.{IsUsual}
use Rattle.tree_pack.specs.declared.spreading.Packed.{Packed}
use Rattle.tree_table.specs.Calls.{Stands, BecomesRows, IsTreeEdited}
use Rattle.tree_table.specs.Freeing.{AreGivenBack}
use Rattle.tree_table.specs.Growing.{below_of, IsPlanned, IsPut, IsUnder, IsThereAt, IsDeep, Edits}
use Rattle.tree_table.specs.Rows.{payload_at, with_row, without_row, with_changes, IsLocal}
use Rattle.tree_table.specs.Stepping.{HasRowid}
use Rattle.tree_table.specs.Tree.{Held, IsHeldAs, Leaf, rows_of, pages_of}
use Rattle.tree_table.specs.declared.changing.RowChange.{RowChange}
use Rattle.tree_table.specs.declared.growing.Change.{Change}
use Rattle.tree_table.specs.declared.growing.Change.TheVariants.{Still, Same, Spread}

-- ---- which changes make a run

-- the first change is of this rowid
abbrev pub IsFirst : ℤ → List RowChange → Type 0
IsFirst rowid [] = ⊥
IsFirst rowid (change ∷ changes) = change.rowid ≡ rowid

-- how much room the row's new cell takes at most on a page of this size: 24 bytes beside its payload, which goes on over other pages where
-- it is long
abbrev pub room_for : ℕ → RowChange → ℕ
room_for size change = elim change.payload [ None ↦ 0 | Some payload ↦ min (length payload.items) (size - 35) + 24 ]

-- at these places of a leaf, which rise from this one on, stand the rows of the first changes
abbrev pub IsRun : ℕ → List (ℤ × Local) → List RowChange → List ℕ → Type 0
IsRun from said changes [] = ⊤
IsRun from said [] (place ∷ places) = ⊥
IsRun from said (change ∷ changes) (place ∷ places) = (from ≤ place) × HasRowid change.rowid said place × IsRun (suc place) said changes places

-- Where the bytes are those of a leaf whose rowids don't fall, a place is one of the change's row, after the last place, and there is room for
-- its cell.
abbrev pub FindsPlace : List ℕ → ℕ → ℕ → ℕ → RowChange → Result (Option ℕ) Fault → Type 0
FindsPlace bytes start last room change result = (said : List (ℤ × Local)) → IsNode bytes start (Rows said) → NeverFall (map (λ row. row.0) said)
    → MatchResult result (λ found. MatchOption found ⊤ (λ place. (last < place) × HasRowid change.rowid said place × (room_for (length bytes) change ≤ room))) (λ fault. ⊥)

-- a run, whose new cells have room on a page together
pub record IsRunIn (size : ℕ) (said : List (ℤ × Local)) (changes : List RowChange) (places : List ℕ) : Type 0 where
  pub run : IsRun 0 said changes places
  pub room : 512 ≤ size → total (map (room_for size) (take (length places) changes)) ≤ size

-- where the bytes are those of a leaf whose rowids don't fall, and the first change's row stands at a place, a run is found; or memory was short
abbrev pub FindsRun : List ℕ → ℕ → ℕ → List RowChange → Result (Vec ℕ) Fault → Type 0
FindsRun bytes start place changes result = (said : List (ℤ × Local)) (rowid : ℤ) → IsNode bytes start (Rows said) → NeverFall (map (λ row. row.0) said)
    → IsFirst rowid changes → HasRowid rowid said place
    → MatchResult result (λ places. IsRunIn (length bytes) said changes places.items) (λ fault. fault ≡ Memory)

-- ---- the old rows

abbrev pub none_held : Held
none_held = record { row = record { rowid = pos 0; payload = [] }; pages = [] }

-- the rows at these places
abbrev pub picked : List Held → List ℕ → List Held
picked rows places = map (λ place. slice_index_or rows place none_held) places

-- these places of a list of so many rise, from this one on
abbrev pub AreRising : ℕ → ℕ → List ℕ → Type 0
AreRising from count [] = ⊤
AreRising from count (place ∷ places) = (from ≤ place) × (place < count) × AreRising (suc place) count places

-- where a tree's leaf has these places, the pages of the payloads there are free then; or memory was short, or a disk's call failed
abbrev pub FreesRun : PageMap → PageMap → ℕ → ℕ → List ℕ → Result ⊤ Fault → Type 0
FreesRun old new size number places result = (ways : ℕ) (rowid low : ℤ) (t : Leaf) (high : ℤ) (free : List ℕ) → IsUnder old size number ways rowid 0 low t high free
    → AreRising 0 (length t.rows) places
    → MatchResult result (λ done. AreGivenBack old new size (flat_map (λ held. held.pages) (picked t.rows places)) free) IsOutside

-- ---- the new rows

-- a row that was written: its cell, what the cell says, and its pages
pub record NewRow : Type 0 where
  pub cell : List ℕ
  pub said : ℤ × Local
  pub held : Held

-- the cell says the row, whose pages have it
pub record IsSound (map : PageMap) (size : ℕ) (row : NewRow) : Type 0 where
  pub says : IsRowCell size row.cell row.said
  pub holds : IsHeldAs map size row.said row.held

-- the cell, if there is one
abbrev pub cell_in : Option (Vec ℕ) → List (List ℕ)
cell_in None = []
cell_in (Some cell) = cell.items ∷ []

-- the row that a change leaves
abbrev pub entry_for : RowChange → List Entry
entry_for change = elim change.payload [ None ↦ [] | Some payload ↦ record { rowid = change.rowid; payload = payload.items } ∷ [] ]

abbrev pub cells_of : List NewRow → List (List ℕ)
cells_of rows = map (λ row. row.cell) rows

abbrev pub says_of : List NewRow → List (ℤ × Local)
says_of rows = map (λ row. row.said) rows

abbrev pub helds_of : List NewRow → List Held
helds_of rows = map (λ row. row.held) rows

abbrev pub entries_of : List NewRow → List Entry
entries_of rows = map (λ row. row.held.row) rows

-- the pages of rows that were written
abbrev pub new_chains : List (List NewRow) → List ℕ
new_chains rows = flat_map (λ row. flat_map (λ new. new.held.pages) row) rows

-- For each change the row that it leaves was written, or none, onto pages that were free.
pub record AreWritten (old new : PageMap) (size : ℕ) (changes : List RowChange) (free : List ℕ) (cells : List (List (List ℕ))) : Type 0 where
  pub rows : List (List NewRow)
  pub cells_are : map cells_of rows ≡ cells
  pub entries_are : map entries_of rows ≡ map entry_for changes
  pub sound : AllByRecursion (AllByRecursion (IsSound new size)) rows
  pub room : total (map (λ cell. total (map cell_room cell)) cells) ≤ total (map (room_for size) changes)
  pub now_free : List ℕ
  pub free_are : AreFree new size now_free
  pub moves : Moves old new [] free (new_chains rows) now_free
  pub header : KeepsHeader old new

-- where these pages are free, a change's row is written; or memory was short, a disk's call failed, or there are as many pages as there may be
abbrev pub WritesRow : PageMap → PageMap → ℕ → RowChange → Result (Option (Vec ℕ)) Fault → Type 0
WritesRow old new size change result = (free : List ℕ) → AreFree old size free → 512 ≤ size
    → MatchResult result (λ cell. AreWritten old new size (change ∷ []) free (cell_in cell ∷ [])) IsOutsideOrFull

-- the same of several changes
abbrev pub WritesRows : PageMap → PageMap → ℕ → List RowChange → Result (Vec (Option (Vec ℕ))) Fault → Type 0
WritesRows old new size changes result = (free : List ℕ) → AreFree old size free → 512 ≤ size
    → MatchResult result (λ cells. AreWritten old new size changes free (map cell_in cells.items)) IsOutsideOrFull

-- ---- the leaf

-- the items from a place on, where those at these places gave way to these
abbrev pub exchanged : {A : Type 0} → ℕ → List ℕ → List (List A) → List A → List A
exchanged from [] news items = drop from items
exchanged from (place ∷ places) [] items = drop from items
exchanged from (place ∷ places) (new ∷ news) items = take (place - from) (drop from items) ++ (new ++ exchanged (suc place) places news items)

-- where the page has these cells, they and one more are put behind the others; or memory was short
abbrev pub AppendsRow : Place → ℕ → ℕ → Option (Vec ℕ) → List (List ℕ) → List (List ℕ) → Result ⊤ Fault → Type 0
AppendsRow page from to cell before after result = (node : Node) (is : IsNode page.bytes page.start node) → from ≤ to → to ≤ length is.cells
    → MatchResult result (λ done. after ≡ before ++ (take (to - from) (drop from is.cells) ++ cell_in cell)) (λ fault. fault ≡ Memory)

-- where the page is a leaf, and its cells with these in place of those at these places say rows, they are packed; or memory was short
abbrev pub Exchanges : List ℕ → ℕ → List ℕ → List (Option (Vec ℕ)) → Result Packed Fault → Type 0
Exchanges page start places cells result = (said rows : List (ℤ × Local)) (is : IsNode page start (Rows said)) → IsUsual page start
    → AreRising 0 (length is.cells) places → AreOf TableLeaf (length page) [] (exchanged 0 places (map cell_in cells) is.cells) (Rows rows)
    → MatchResult result (λ packed. (rises : Bool)
    × Packs TableLeaf (length page) (take start page) rises (exchanged 0 places (map cell_in cells) is.cells) (Rows rows) packed) (λ fault. fault ≡ Memory)

-- In a tree's leaf the first change's row stands at a place, and a run of these changes, the first of all, at these places.
pub record IsRunUnder (old : PageMap) (size number ways : ℕ) (rowid low : ℤ) (t : Leaf) (high : ℤ) (free : List ℕ) (all changes : List RowChange) (places : List ℕ) : Type 0 where
  pub under : IsUnder old size number ways rowid 0 low t high free
  pub first : IsFirst rowid all
  pub place : ℕ
  pub within : place < length t.rows
  pub same : (d : Held) → (slice_index_or t.rows place d).row.rowid ≡ rowid
  pub run : IsRunIn size (under.lies).said all places
  pub made : changes ≡ take (length places) all

-- where this is so, packed pages have to take the leaf's place, after these changes
abbrev pub ExchangesLeaf : PageMap → PageMap → ℕ → ℕ → List ℕ → List RowChange → Result Packed Fault → Type 0
ExchangesLeaf old new size number places changes result = (ways : ℕ) (rowid low : ℤ) (t : Leaf) (high : ℤ) (free : List ℕ) (all : List RowChange)
    → IsRunUnder old size number ways rowid low t high free all changes places
    → MatchResult result (λ packed. IsLocal rowid high (with_changes changes)
    × IsPlanned old new size number 0 low high (with_changes changes (rows_of 0 t)) (below_of 0 t) free packed) IsOutsideOrFull

-- where a leaf has the first change's row at a place, packed pages have to take its place, after some of the changes
abbrev pub ChangesLeaf : PageMap → PageMap → ℕ → ℕ → ℕ → List RowChange → Result (ℕ × Packed) Fault → Type 0
ChangesLeaf old new size number place changes result = (ways : ℕ) (rowid low : ℤ) (t : Leaf) (high : ℤ) (free : List ℕ)
    → IsUnder old size number ways rowid 0 low t high free → IsFirst rowid changes → place < length t.rows
    → ((d : Held) → (slice_index_or t.rows place d).row.rowid ≡ rowid)
    → MatchResult result (λ done. IsLocal rowid high (with_changes (take done.0 changes))
    × IsPlanned old new size number 0 low high (with_changes (take done.0 changes) (rows_of 0 t)) (below_of 0 t) free done.1) IsOutsideOrFull

-- ---- a row that is changed alone

-- there is one change
abbrev pub IsOneChange : List RowChange → Type 0
IsOneChange [] = ⊥
IsOneChange (change ∷ []) = ⊤
IsOneChange (change ∷ next ∷ changes) = ⊥

-- at `true` there is one change, and the leaf has its rows after it; at `false` nothing has changed
abbrev pub IsRowRewritten : PageMap → PageMap → ℕ → ℕ → List RowChange → ℤ → Leaf → ℤ → List ℕ → Bool → Type 0
IsRowRewritten old new size number changes low t high free false = new ≡ old
IsRowRewritten old new size number changes low t high free true =
    IsOneChange changes × IsPut old new size number 0 low high (with_changes (take 1 changes) (rows_of 0 t)) (pages_of 0 t) free

-- where a leaf has the first change's row at a place, it is changed there, or nothing has changed; or memory was short, or a disk's call failed
abbrev pub RewritesRow : PageMap → PageMap → ℕ → ℕ → ℕ → List RowChange → Result Bool Fault → Type 0
RewritesRow old new size number place changes result = (ways : ℕ) (rowid low : ℤ) (t : Leaf) (high : ℤ) (free : List ℕ)
    → IsUnder old size number ways rowid 0 low t high free → IsFirst rowid changes → place < length t.rows
    → ((d : Held) → (slice_index_or t.rows place d).row.rowid ≡ rowid)
    → MatchResult result (IsRowRewritten old new size number changes low t high free) IsOutside

-- at `true` there is one change, and the leaf has its rows without the one of this rowid; at `false` nothing has changed
abbrev pub IsTakenOff : PageMap → PageMap → ℕ → ℕ → ℤ → List RowChange → ℤ → Leaf → ℤ → List ℕ → Bool → Type 0
IsTakenOff old new size number rowid changes low t high free false = new ≡ old
IsTakenOff old new size number rowid changes low t high free true =
    IsOneChange changes × IsPut old new size number 0 low high (without_row rowid (rows_of 0 t)) (pages_of 0 t) free

-- where a leaf has the row of a rowid at a place, it is taken out, or nothing has changed; or memory was short, or a disk's call failed
abbrev pub TakesRow : PageMap → PageMap → ℕ → ℕ → ℕ → List RowChange → Result Bool Fault → Type 0
TakesRow old new size number place changes result = (ways : ℕ) (rowid low : ℤ) (t : Leaf) (high : ℤ) (free : List ℕ)
    → IsUnder old size number ways rowid 0 low t high free → place < length t.rows → ((d : Held) → (slice_index_or t.rows place d).row.rowid ≡ rowid)
    → MatchResult result (IsTakenOff old new size number rowid changes low t high free) IsOutside

-- the rows with the one of this rowid, if the first change gives it a payload
abbrev pub with_again : ℤ → List RowChange → List Entry → List Entry
with_again rowid [] rows = rows
with_again rowid (change ∷ changes) rows = elim change.payload [ None ↦ rows | Some payload ↦ with_row (record { rowid = rowid; payload = payload.items }) rows ]

-- the leaf has that row too; or packed pages have to take its place
abbrev pub IsPutAgain : PageMap → PageMap → ℕ → ℕ → ℕ → ℤ → List RowChange → ℤ → Leaf → ℤ → List ℕ → Change → Type 0
IsPutAgain old new size number ways rowid changes low t high free Still = ⊥
IsPutAgain old new size number ways rowid changes low t high free Same =
    IsPut old new size number 0 low high (with_again rowid changes (rows_of 0 t)) (pages_of 0 t) free
IsPutAgain old new size number ways rowid changes low t high free (Spread packed deep) =
    IsDeep ways 0 deep × IsPlanned old new size number 0 low high (with_again rowid changes (rows_of 0 t)) (below_of 0 t) free packed

-- where a leaf has no row of the rowid, and the place is that of the row, this becomes of it; or memory was short, a disk's call failed, or there
-- are as many pages as there may be
abbrev pub PutsAgain : PageMap → PageMap → ℕ → ℕ → ℕ → ℕ → ℤ → List RowChange → Result Change Fault → Type 0
PutsAgain old new size number place ways rowid changes result = (low : ℤ) (t : Leaf) (high : ℤ) (free : List ℕ)
    → IsUnder old size number ways rowid 0 low t high free → payload_at rowid (rows_of 0 t) ≡ None
    → place ≡ below rowid (map (λ held. held.row.rowid) t.rows)
    → MatchResult result (IsPutAgain old new size number ways rowid changes low t high free) IsOutsideOrFull

-- ---- the tree

-- there is no row of the first change, which is the one that was made
abbrev pub IsNoRun : ℕ → Option (List ℕ) → Type 0
IsNoRun count found = (found ≡ None) × (count ≡ 1)

-- what became of a page, where this became of it after so many changes
abbrev pub change_in : Result (ℕ × Change) Fault → Result Change Fault
change_in (Ok done) = Ok done.1
change_in (Err fault) = Err fault

abbrev pub count_in : Result (ℕ × Change) Fault → ℕ
count_in (Ok done) = done.0
count_in (Err fault) = 0

-- where a tree stands under a page, the first changes are made in it, or there is no row of the first
abbrev pub ChangesBelow : PageMap → PageMap → ℕ → ℕ → ℕ → ℤ → List RowChange → Result (ℕ × Change) Fault → Type 0
ChangesBelow old new size number ways rowid changes result =
    Edits (IsNoRun (count_in result)) IsThereAt old new size number ways rowid (with_changes (take (count_in result) changes)) (change_in result)

-- the change gives a row another payload
abbrev pub Replaces : RowChange → Type 0
Replaces change = (change.payload ≡ None) → ⊥

-- where a tree stands, the first changes are made in it, or there is no row of the first
abbrev pub EditsRun : PageMap → PageMap → ℕ → ℕ → ℤ → List RowChange → Result (ℕ × Bool) Fault → Type 0
EditsRun old new size root rowid changes result = (rows : List Entry) (used free : List ℕ) → Stands old size root rows used free
    → MatchResult result (λ done. IsTreeEdited (IsNoRun done.0) IsThereAt old new size root rowid (with_changes (take done.0 changes)) rows used free done.1) IsOutsideOrFull

-- The first changes were made; without rows the tree is its root alone. Or there is no row of the first, and nothing changed.
abbrev pub IsRunMade : PageMap → PageMap → ℕ → ℕ → ℤ → List RowChange → List Entry → List ℕ → List ℕ → ℕ → Bool → Type 0
IsRunMade old new size root rowid changes rows used free count true =
    ((payload_at rowid rows ≡ None) → ⊥) × ((now : BecomesRows old new size root (with_changes (take count changes) rows) used free)
    × (with_changes (take count changes) rows ≡ [] → now.now_used ≡ root ∷ []))
IsRunMade old new size root rowid changes rows used free count false = ((payload_at rowid rows ≡ None) × (count ≡ 1)) × (new ≡ old)

-- Where a tree stands, the first changes are made in it;
-- or memory was short, a disk's call failed, or there are as many pages as there may be.
abbrev pub RunsAt : PageMap → PageMap → ℕ → ℕ → ℤ → List RowChange → Result (ℕ × Bool) Fault → Type 0
RunsAt old new size root rowid changes result = (rows : List Entry) (used free : List ℕ) → Stands old size root rows used free
    → MatchResult result (λ done. IsRunMade old new size root rowid changes rows used free done.0 done.1) IsOutsideOrFull
