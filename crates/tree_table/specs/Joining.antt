-- How two pages side by side in a table's tree are joined.
use Rattle.std.specs.Prelude.{◌≡◌, ◌≤◌, ◌<◌, ◌-◌, ◌^◌, ℕ, zero, suc, ℤ, pos, false}
use Rattle.std.specs.Prelude.{List, [], ◌∷◌, ◌++◌, length, slice_index_or, Option, MatchOption, Result, MatchResult}
use Rattle.sqlval.specs.declared.fault.Fault.{Fault}
use Rattle.sqlval.specs.declared.fault.Fault.TheVariants.{Memory}
use Rattle.sqlval.specs.Faults.{IsOutside}
use Rattle.pages.specs.Calls.{IsOutsideOrFull}
use Rattle.pages.specs.Map.{PageMap, AreWhole}
use Rattle.tree_page.specs.Cells.{Pairwise}
use Rattle.tree_page.specs.Node.{Local, Rows, Keys, IsNode, IsKeyCell}
use Rattle.tree_page.specs.declared.items.Kind.TheVariants.{TableLeaf, TableInterior}
use Rattle.tree_pack.specs.Packing.{Packs}
use Rattle.tree_pack.specs.Splicing.{IsUsual}
use Rattle.tree_pack.specs.declared.spreading.Packed.{Packed}
use Rattle.tree_store.specs.Saying.{Says}
use Rattle.tree_store.specs.Storing.{cells_of}
use Rattle.tree_store.specs.declared.storing.Fan.{Fan}
use Rattle.tree_table.specs.Fanning.{fanned, IsFanned}
use Rattle.tree_table.specs.Growing.{below_of, IsUnder, IsPlanned}
use Rattle.tree_table.specs.Stepping.{child_at}
use Rattle.tree_table.specs.Tree.{Tree, rows_of}
use Rattle.tree_table.specs.declared.joining.Pair.{Pair}

-- the items without the one at a place
abbrev pub without_at : {A : Type 0} → ℕ → List A → List A
without_at place [] = []
without_at zero (item ∷ items) = items
without_at (suc place) (item ∷ items) = item ∷ without_at place items

-- ---- two children

-- the child at a place and the one before it, or if it is the first, the one after it
pub record IsPairAt (kids : List (ℕ × ℤ)) (last place : ℕ) (pair : Pair) : Type 0 where
  pub place_is : pair.place ≡ place - 1
  pub within : pair.place < length kids
  pub left_is : pair.left ≡ child_at pair.place kids last
  pub right_is : pair.right ≡ child_at (suc pair.place) kids last
  pub cell_is : IsKeyCell pair.cell.items (slice_index_or kids pair.place (0, pos 0))

-- two children are found, or there are none
abbrev pub IsPairFound : List (ℕ × ℤ) → ℕ → ℕ → Option Pair → Type 0
IsPairFound kids last place found = MatchOption found (length kids ≤ place - 1) (IsPairAt kids last place)

-- where the page is an interior one, two of its children are found, or one alone; or memory was short
abbrev pub FindsPair : List ℕ → ℕ → ℕ → Result (Option Pair) Fault → Type 0
FindsPair page start place result = (kids : List (ℕ × ℤ)) (last : ℕ) → IsNode page start (Keys kids last)
    → MatchResult result (IsPairFound kids last place) (λ fault. fault ≡ Memory)

-- the same of a page by its number; or memory was short, or a disk's call failed
abbrev pub FindsPairOn : PageMap → ℕ → ℕ → ℕ → Result (Option Pair) Fault → Type 0
FindsPairOn map size number place result = (kids : List (ℕ × ℤ)) (last : ℕ) → AreWhole size map → Says map number (Keys kids last)
    → MatchResult result (IsPairFound kids last place) IsOutside

-- ---- the cells of two pages

-- where both pages are leaves, their rows are packed; or memory was short, or a disk's call failed
abbrev pub MergesRows : List ℕ → List ℕ → Result Packed Fault → Type 0
MergesRows left right result = (rows others : List (ℤ × Local)) (is_left : IsNode left 0 (Rows rows)) (is_right : IsNode right 0 (Rows others))
    → IsUsual left 0 → length right ≡ length left
    → MatchResult result (Packs TableLeaf (length left) [] false (is_left.cells ++ is_right.cells) (Rows (rows ++ others))) IsOutside

-- children are packed, those of the first page with this key before those of the second
pub record AreKeysMerged (page_size : ℕ) (cells others : List (List ℕ)) (kids more : List (ℕ × ℤ)) (last end : ℕ) (cell : List ℕ) (key : ℤ) (packed : Packed) : Type 0 where
  pub between : List ℕ
  pub between_is : IsKeyCell between (last, key)
  pub between_len : length between ≡ length cell
  pub packs : Packs TableInterior page_size [] false (cells ++ between ∷ others) (Keys (kids ++ (last, key) ∷ more) end) packed

-- where both pages are interior ones, and the cell has a key, their children are packed; or memory was short, or a disk's call failed
abbrev pub MergesKeys : List ℕ → List ℕ → List ℕ → Result Packed Fault → Type 0
MergesKeys left cell right result = (kids more : List (ℕ × ℤ)) (last end : ℕ) (kid : ℕ × ℤ) (is_left : IsNode left 0 (Keys kids last)) (is_right : IsNode right 0 (Keys more end))
    → IsKeyCell cell kid → IsUsual left 0 → length right ≡ length left
    → MatchResult result (AreKeysMerged (length left) is_left.cells is_right.cells kids more last end cell kid.1) IsOutside

-- ---- the page above

-- where the page is an interior one and the fan's cells say these children, they are packed in place of two of the page's; or memory was short
abbrev pub FansTwo : List ℕ → ℕ → ℕ → Fan → Result Packed Fault → Type 0
FansTwo page start place fan result = (kids news : List (ℕ × ℤ)) (last : ℕ) → IsNode page start (Keys kids last) → IsUsual page start
    → place < length kids → fan.last < 2 ^ 32 → Pairwise IsKeyCell (cells_of fan) news
    → MatchResult result (IsFanned page start (fanned place news fan.last (without_at place kids) last) fan) (λ fault. fault ≡ Memory)

-- packed pages have to take a page's place, whose tree keeps its rows; or nothing changed
abbrev pub IsJoinedAt : PageMap → PageMap → ℕ → ℕ → (depth : ℕ) → ℤ → Tree depth → ℤ → List ℕ → Option Packed → Type 0
IsJoinedAt old new size number depth low t high free joined =
    MatchOption joined (new ≡ old) (IsPlanned old new size number depth low high (rows_of depth t) (below_of depth t) free)

-- where a tree stands under an interior page, two of its children are joined, or nothing changed; or memory was short, a disk's call
-- failed, or there are as many pages as there may be
abbrev pub JoinsAt : PageMap → PageMap → ℕ → ℕ → ℕ → Result (Option Packed) Fault → Type 0
JoinsAt old new size number place result =
    (ways : ℕ) (rowid : ℤ) (depth : ℕ) (low : ℤ) (t : Tree (suc depth)) (high : ℤ) (free : List ℕ) → IsUnder old size number ways rowid (suc depth) low t high free
    → MatchResult result (IsJoinedAt old new size number (suc depth) low t high free) IsOutsideOrFull
