-- How a row is put into a table's tree or taken out of it: what becomes of the page at the top of a subtree.
use Rattle.std.specs.Prelude.{◌≡◌, ◌≤◌, ◌<◌, ◌+◌, ℕ, zero, suc, ℤ, ◌<ℤ◌, ◌≤ℤ◌, Bool}
use Rattle.std.specs.Prelude.{true, false, List, [], ◌∷◌, length, map, take, Option, None, Some, Result, MatchResult}
use Rattle.std.specs.List.{AllByRecursion, flat_map}
use Rattle.sqlval.specs.declared.fault.Fault.{Fault}
use Rattle.sqlval.specs.PageSizes.{IsPageSize}
use Rattle.tree_leaf.specs.Leaf.{Entry}
use Rattle.pages.specs.Calls.{IsOutsideOrFull}
use Rattle.pages.specs.Counting.{occurs, start_of, body_at, Moves}
use Rattle.pages.specs.Map.{PageMap, page_at}
use Rattle.freelist.specs.Calls.{AreFree, HasFree, KeepsHeader}
use Rattle.tree_page.specs.Cells.{Pairwise}
use Rattle.tree_page.specs.Node.{Local, Node, Rows, Keys, IsNode}
use Rattle.tree_page.specs.Reading.{below}
use Rattle.tree_pack.specs.Packing.{IsKey, images, divider_bytes}
use Rattle.tree_pack.specs.declared.spreading.Packed.{Packed}
use Rattle.tree_pack.specs.declared.spreading.Piece.{Piece}
use Rattle.tree_store.specs.Sides.{Each, Parted, children, each_of, nothing}
use Rattle.tree_table.specs.Rows.{payload_at, with_row, IsLocal}
use Rattle.tree_table.specs.Stepping.{child_at}
use Rattle.tree_table.specs.Tree.{IsHeldAs, Leaf, Tree, top, rows_of, pages_of, IsSorted, Lies}
use Rattle.tree_table.specs.declared.growing.Change.{Change}
use Rattle.tree_table.specs.declared.growing.Change.TheVariants.{Still, Same, Spread}

-- ---- subtrees whose top page isn't stored

-- the pages of a tree, except for the one at the top
abbrev pub below_of : (depth : ℕ) → Tree depth → List ℕ
below_of zero t = flat_map (λ held. held.pages) t.rows
below_of (suc depth) t = each_of (pages_of depth) nothing t.kids t.last

-- the tree's page at the top has to say this, and all below it lies on its pages
abbrev pub Shows : PageMap → ℕ → (depth : ℕ) → Tree depth → Node → Type 0
Shows map size zero t node = (said : List (ℤ × Local)) × (node ≡ Rows said) × Pairwise (IsHeldAs map size) said t.rows
Shows map size (suc depth) t node =
    (node ≡ Keys (children (top depth) t.kids) (top depth t.last)) × Each (Lies map size depth) t.kids t.last

-- these bytes are the tree's page at the top
pub record IsTop (map : PageMap) (size depth start : ℕ) (image : List ℕ) (t : Tree depth) : Type 0 where
  pub node : Node
  pub says : IsNode image start node
  pub shows : Shows map size depth t node

-- all subtrees of a row
abbrev pub all_of : {T K : Type 0} → List (T × K) → T → List T
all_of [] last = last ∷ []
all_of (kid ∷ kids) last = kid.0 ∷ all_of kids last

-- where the tree's part of a packed page begins: a page alone takes the place of the old one
abbrev pub start_in : ℕ → List Piece → ℕ
start_in number [] = start_of number
start_in number (piece ∷ pieces) = 0

-- Packed pages are the tops of subtrees of these rows, whose other pages are stored. What the page has that they take the place of may have changed.
pub record IsPlanned (old new : PageMap) (size number depth : ℕ) (low high : ℤ) (rows : List Entry) (used free : List ℕ) (packed : Packed) : Type 0 where
  pub kids : List (Tree depth × ℤ)
  pub last : Tree depth
  pub tops : Pairwise (IsTop new size depth (start_in number packed.pieces.items)) (images packed) (all_of kids last)
  pub divide : Pairwise IsKey (divider_bytes packed) (map (λ kid. kid.1) kids)
  pub sorted : Parted (IsSorted depth) low kids last high
  pub rows_are : each_of (rows_of depth) nothing kids last ≡ rows
  pub now_free : List ℕ
  pub has : HasFree new size now_free
  pub moves : Moves old new (number ∷ used) free (number ∷ each_of (below_of depth) nothing kids last) now_free
  pub header : KeepsHeader old new
  pub sized : AllByRecursion (λ image. length image ≡ size) (images packed)
  pub front : packed.pieces.items ≡ [] → take (start_of number) packed.last.items ≡ take (start_of number) (page_at new number)
  pub few : length packed.pieces.items ≤ 8

-- ---- changes

-- A tree under a page, with free pages beside it, none of them in it; the row's place is within its bounds, and no way is longer.
pub record IsUnder (map : PageMap) (size number ways : ℕ) (rowid : ℤ) (depth : ℕ) (low : ℤ) (t : Tree depth) (high : ℤ) (free : List ℕ) : Type 0 where
  pub top_is : top depth t ≡ number
  pub lies : Lies map size depth t
  pub sorted : IsSorted depth low t high
  pub above : low <ℤ rowid
  pub upto : rowid ≤ℤ high
  pub shallow : depth ≤ ways
  pub apart : (n : ℕ) → occurs n (pages_of depth t) + occurs n free ≤ 1
  pub first : occurs 1 (below_of depth t) ≡ 0
  pub free_are : AreFree map size free
  pub sized : IsPageSize size

-- the tree under this page has these rows now
pub record IsPut (old new : PageMap) (size number depth : ℕ) (low high : ℤ) (rows : List Entry) (used free : List ℕ) : Type 0 where
  pub tree : Tree depth
  pub top_is : top depth tree ≡ number
  pub lies : Lies new size depth tree
  pub sorted : IsSorted depth low tree high
  pub rows_are : rows_of depth tree ≡ rows
  pub now_free : List ℕ
  pub has : HasFree new size now_free
  pub moves : Moves old new used free (pages_of depth tree) now_free
  pub header : KeepsHeader old new

-- whether the tree is as deep as may be
pub record IsDeep (ways depth : ℕ) (deep : Bool) : Type 0 where
  pub full : deep ≡ true → ways ≤ depth
  pub short : deep ≡ false → depth < ways

-- What became of a page in whose tree rows were changed from a rowid on: nothing changed; or the tree under the page has the changed rows; or
-- packed pages have to take its place. What was looked up of the rowid is so in the first case, and so in the others.
abbrev pub IsEdited : (Option (List ℕ) → Type 0) → (Option (List ℕ) → Type 0) → PageMap → PageMap → ℕ → ℕ → ℕ → ℤ → (List Entry → List Entry)
    → (depth : ℕ) → ℤ → Tree depth → ℤ → List ℕ → Change → Type 0
IsEdited Skips Acts old new size number ways rowid edit depth low t high free Still = Skips (payload_at rowid (rows_of depth t)) × (new ≡ old)
IsEdited Skips Acts old new size number ways rowid edit depth low t high free Same =
    Acts (payload_at rowid (rows_of depth t)) × IsLocal rowid high edit
    × IsPut old new size number depth low high (edit (rows_of depth t)) (pages_of depth t) free
IsEdited Skips Acts old new size number ways rowid edit depth low t high free (Spread packed deep) =
    Acts (payload_at rowid (rows_of depth t)) × IsLocal rowid high edit × IsDeep ways depth deep
    × IsPlanned old new size number depth low high (edit (rows_of depth t)) (below_of depth t) free packed

-- there is a row
abbrev pub IsThereAt : Option (List ℕ) → Type 0
IsThereAt found = found ≡ None → ⊥

-- there is none
abbrev pub IsNotAt : Option (List ℕ) → Type 0
IsNotAt found = found ≡ None

-- a row was put in; or there is a row of its rowid, and nothing changed
abbrev pub IsChanged : PageMap → PageMap → ℕ → ℕ → ℕ → Entry → (depth : ℕ) → ℤ → Tree depth → ℤ → List ℕ → Change → Type 0
IsChanged old new size number ways row = IsEdited IsThereAt IsNotAt old new size number ways row.rowid (with_row row)

-- where a tree stands under a page, this becomes of it; or memory was short, a disk's call failed, or there are as many pages as
-- there may be
abbrev pub Edits : (Option (List ℕ) → Type 0) → (Option (List ℕ) → Type 0) → PageMap → PageMap → ℕ → ℕ → ℕ → ℤ → (List Entry → List Entry) → Result Change Fault → Type 0
Edits Skips Acts old new size number ways rowid edit result = (depth : ℕ) (low : ℤ) (t : Tree depth) (high : ℤ) (free : List ℕ)
    → IsUnder old size number ways rowid depth low t high free
    → MatchResult result (IsEdited Skips Acts old new size number ways rowid edit depth low t high free) IsOutsideOrFull

-- where a tree stands under a page, a row is put into it, or there is one
abbrev pub Changes : PageMap → PageMap → ℕ → ℕ → ℕ → Entry → Result Change Fault → Type 0
Changes old new size number ways row = Edits IsThereAt IsNotAt old new size number ways row.rowid (with_row row)

-- the leaf has the row too; or packed pages have to take its place
abbrev pub IsPutOrPlanned : PageMap → PageMap → ℕ → ℕ → Entry → ℤ → Leaf → ℤ → List ℕ → Option Packed → Type 0
IsPutOrPlanned old new size number row low t high free None = IsPut old new size number zero low high (with_row row (rows_of zero t)) (pages_of zero t) free
IsPutOrPlanned old new size number row low t high free (Some packed) =
    IsPlanned old new size number zero low high (with_row row (rows_of zero t)) (below_of zero t) free packed

-- where a leaf has no row of the rowid, and the place is that of the row, it is put in, or packed pages have to take the leaf's place
abbrev pub PlansLeaf : PageMap → PageMap → ℕ → ℕ → ℕ → Entry → Result (Option Packed) Fault → Type 0
PlansLeaf old new size number place row result = (ways : ℕ) (low : ℤ) (t : Leaf) (high : ℤ) (free : List ℕ)
    → IsUnder old size number ways row.rowid zero low t high free → payload_at row.rowid (rows_of zero t) ≡ None
    → place ≡ below row.rowid (map (λ held. held.row.rowid) t.rows)
    → MatchResult result (IsPutOrPlanned old new size number row low t high free) IsOutsideOrFull

-- ---- the page above

-- where a tree stands under a page, packed pages have to take its place, with changed rows
abbrev pub GivesWay : PageMap → PageMap → ℕ → ℕ → ℕ → ℤ → (List Entry → List Entry) → Packed → Bool → Type 0
GivesWay old new size number ways rowid edit packed deep = (depth : ℕ) (low : ℤ) (t : Tree depth) (high : ℤ) (free : List ℕ)
    → IsUnder old size number ways rowid depth low t high free
    → IsLocal rowid high edit × IsDeep ways depth deep
    × IsPlanned old new size number depth low high (edit (rows_of depth t)) (below_of depth t) free packed

-- the tree under a page has changed rows, and the page is as it was; or packed pages have to take its place
abbrev pub IsWidened : PageMap → PageMap → ℕ → ℕ → ℕ → (List Entry → List Entry) → (depth : ℕ) → ℤ → Tree depth → ℤ → List ℕ → Change → Type 0
IsWidened old new size number ways edit depth low t high free Still = ⊥
IsWidened old new size number ways edit depth low t high free Same =
    IsPut old new size number depth low high (edit (rows_of depth t)) (pages_of depth t) free × (body_at new number ≡ body_at old number)
IsWidened old new size number ways edit depth low t high free (Spread packed deep) =
    IsDeep ways depth deep × IsPlanned old new size number depth low high (edit (rows_of depth t)) (below_of depth t) free packed

-- where packed pages have to take the place of a child, this becomes of the page above
abbrev pub Widens : PageMap → PageMap → ℕ → ℕ → ℕ → ℕ → Packed → Bool → Result Change Fault → Type 0
Widens mid new size number place child packed deep result =
    (old : PageMap) (ways : ℕ) (rowid : ℤ) (edit : List Entry → List Entry)
    (depth : ℕ) (low : ℤ) (t : Tree (suc depth)) (high : ℤ) (free : List ℕ)
    → IsUnder old size number (suc ways) rowid (suc depth) low t high free
    → place ≡ below rowid (map (λ kid. kid.1) t.kids) → child ≡ child_at place (children (top depth) t.kids) (top depth t.last)
    → GivesWay old mid size child ways rowid edit packed deep
    → MatchResult result (IsWidened old new size number (suc ways) edit (suc depth) low t high free) IsOutsideOrFull
