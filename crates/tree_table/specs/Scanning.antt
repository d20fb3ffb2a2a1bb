-- Reading a tree's rows in order, batch by batch.
use Rattle.std.specs.Prelude.{◌≡◌, ◌+◌, ◌-◌, ◌^◌, ◌<◌, ◌≤◌, ℕ, zero, suc, ℤ, pos, ◌+ℤ◌, ◌<ℤ◌, ◌≤ℤ◌, List, [], ◌∷◌, ◌++◌, length, map, take, drop, Option, Some, None, Result, MatchResult, ⊤}
use Rattle.std.specs.List.{AllByRecursion, flat_map}
use Rattle.sqlval.specs.Faults.{IsOutside}
use Rattle.sqlval.specs.declared.fault.Fault.{Fault}
use Rattle.sqlval.specs.declared.fault.Fault.TheVariants.{Memory}
use Rattle.tree_leaf.specs.Leaf.{Entry}
use Rattle.pages.specs.Map.{PageMap, AreWhole}
use Rattle.tree_page.specs.Node.{Local, Rows, IsNode}
use Rattle.tree_table.specs.Rows.{rows_from}
use Rattle.tree_table.specs.Tree.{Held, Leaf, IsLeaf, IsTableTree}
use Rattle.tree_table.specs.declared.scanning.BatchEntry.{BatchEntry}
use Rattle.tree_table.specs.declared.scanning.BatchRow.{BatchRow}

-- the rows whose payloads lie one after another in these bytes, the first of them from an offset on
abbrev pub entries_from : ℕ → List BatchRow → List ℕ → List Entry
entries_from start [] bytes = []
entries_from start (row ∷ rows) bytes = record { rowid = row.rowid; payload = take (row.end - start) (drop start bytes) } ∷ entries_from row.end rows bytes

-- where the payload of the row at a place begins
abbrev pub start_at : ℕ → List BatchRow → ℕ → ℕ
start_at start rows zero = start
start_at start [] (suc index) = start
start_at start (row ∷ rows) (suc index) = start_at row.end rows index

-- the row that it is
abbrev pub entry_in : BatchEntry → Entry
entry_in row = record { rowid = row.rowid; payload = row.payload.now }

-- rows of a batch have the rowids of these, and each payload ends as far behind the one before it as it is long
abbrev pub AreLaid : ℕ → List BatchRow → List Entry → Type 0
AreLaid start [] [] = ⊤
AreLaid start [] (entry ∷ entries) = ⊥
AreLaid start (row ∷ rows) [] = ⊥
AreLaid start (row ∷ rows) (entry ∷ entries) = (row.rowid ≡ entry.rowid) × (row.end ≡ start + length entry.payload) × AreLaid row.end rows entries

-- The rows of a batch are these, and its bytes are their payloads, one after another.
pub record AreBatched (entries : List Entry) (rows : List BatchRow) (bytes : List ℕ) : Type 0 where
  pub laid : AreLaid 0 rows entries
  pub bytes_are : bytes ≡ flat_map (λ entry. entry.payload) entries

-- ---- the rows of a leaf, up to a place

-- a row whose payload lies whole in its cell
abbrev pub whole_row : ℤ × Local → Entry
whole_row row = record { rowid = row.0; payload = row.1.bytes }

-- the first of these rows, if there is one, has a payload of more than so many bytes
abbrev pub BeginsLong : ℕ → List (ℤ × Local) → Type 0
BeginsLong most [] = ⊤
BeginsLong most (row ∷ rows) = most < row.1.size

-- A batch has these entries, and then the rows of a leaf from one place up to another. Their payloads have at most so many bytes each, and
-- that of the row after them, if there is one, has more.
pub record HasShort (said : List (ℤ × Local)) (most place to : ℕ) (entries : List Entry) (rows : List BatchRow) (bytes : List ℕ) : Type 0 where
  pub short : List (ℤ × Local)
  pub rest : List (ℤ × Local)
  pub parts : drop place said ≡ short ++ rest
  pub to_is : to ≡ place + length short
  pub are_short : AllByRecursion (λ row. row.1.size ≤ most) short
  pub next : BeginsLong most rest
  pub batch : AreBatched (entries ++ map whole_row short) rows bytes

-- on a page that is a leaf, its short rows from a place on were put behind those of a batch; or memory was short
abbrev pub CopiesShort : List ℕ → ℕ → ℕ → ℕ → List BatchRow → List ℕ → List BatchRow → List ℕ → Result ℕ Fault → Type 0
CopiesShort page start most place rows bytes new_rows new_bytes result = (said : List (ℤ × Local)) (entries : List Entry) → IsNode page start (Rows said) → AreBatched entries rows bytes
    → MatchResult result (λ to. HasShort said most place to entries new_rows new_bytes) (λ fault. fault ≡ Memory)

-- the rows of a leaf from one place up to another
abbrev pub rows_between : ℕ → ℕ → List Held → List Entry
rows_between place to rows = map (λ held. held.row) (take (to - place) (drop place rows))

-- where a leaf has a row at this place, and a batch had its rows up to there, the batch has those up to another place; or memory was short, or a
-- disk's call failed
abbrev pub GoesOn : PageMap → ℕ → ℕ → ℕ → List BatchRow → List ℕ → List BatchRow → List ℕ → Result ℕ Fault → Type 0
GoesOn pages size page at rows bytes new_rows new_bytes result = (leaf : Leaf) (place : ℕ) → AreWhole size pages → IsLeaf pages size leaf → leaf.page ≡ page → place ≤ at → at < length leaf.rows
    → AreBatched (rows_between place at leaf.rows) rows bytes → MatchResult result (λ to. AreBatched (rows_between place to leaf.rows) new_rows new_bytes) IsOutside

-- ---- a batch, and where it is

-- in a tree, all rows come from there on
abbrev pub BeginsAll : Option ℤ → Type 0
BeginsAll next = (pages : PageMap) (size root : ℕ) (rows : List Entry) (used : List ℕ) → IsTableTree pages size root rows used → rows_from next rows ≡ rows

-- it is at the end, or farther on, at a rowid of 64 bits
abbrev pub IsForward : Option ℤ → Option ℤ → Type 0
IsForward old None = ⊤
IsForward None (Some rowid) = ⊥
IsForward (Some before) (Some rowid) = (before <ℤ rowid) × (rowid <ℤ pos (2 ^ 63))

-- the rowid after that of a key, or None where it has more than 64 bits
abbrev pub IsNextOf : Option ℤ → Option ℤ → Type 0
IsNextOf None next = next ≡ None
IsNextOf (Some key) None = pos (2 ^ 63) ≤ℤ (key +ℤ pos 1)
IsNextOf (Some key) (Some next) = (next ≡ (key +ℤ pos 1)) × (next <ℤ pos (2 ^ 63))

-- the batch has the rows of a leaf from a place on; or memory was short, or a disk's call failed
abbrev pub CopiesRows : PageMap → ℕ → ℕ → ℕ → List Entry → Result ⊤ Fault → Type 0
CopiesRows pages size page place batch result = (leaf : Leaf) → AreWhole size pages → IsLeaf pages size leaf → leaf.page ≡ page
    → MatchResult result (λ done. batch ≡ map (λ held. held.row) (drop place leaf.rows)) IsOutside

-- Of a tree, the batch has the next rows that come, if any, and the others come later. Or memory was short, or a disk's call failed.
abbrev pub GivesLeaf : PageMap → ℕ → ℕ → ℤ → List Entry → Result (Option ℤ) Fault → Type 0
GivesLeaf pages size root next batch result = (rows : List Entry) (used : List ℕ) → AreWhole size pages → IsTableTree pages size root rows used
    → MatchResult result (λ later. rows_from (Some next) rows ≡ batch ++ rows_from later rows) IsOutside

-- Of a tree, the batch has the next rows that come, and the others come later; there is none only at the end. Or memory was short, or a
-- disk's call failed.
abbrev pub GivesBatch : PageMap → ℕ → ℕ → Option ℤ → Option ℤ → List Entry → Result ⊤ Fault → Type 0
GivesBatch pages size root next later batch result = (rows : List Entry) (used : List ℕ) → AreWhole size pages → IsTableTree pages size root rows used
    → MatchResult result (λ done. (rows_from next rows ≡ batch ++ rows_from later rows) × (batch ≡ [] → later ≡ None)) IsOutside
