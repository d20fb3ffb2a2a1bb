-- How an entry is put into an index's tree: what becomes of the page at the top of a subtree.
use Rattle.std.specs.Prelude.{⊤, ◌≡◌, ◌≤◌, ◌<◌, ◌+◌, ℕ, zero, suc, Bool, true, false, List, [], ◌∷◌, ◌++◌, length, map, slice_index_or, take, drop, ◌^◌, Option, Some, None, Ok, Result, MatchResult}
use Rattle.std.specs.Global.{Vec}
use Rattle.std.specs.List.{AllByRecursion, list_any}
use Rattle.std.specs.Ordering.{is_eq, is_gt, is_lt}
use Rattle.sqlval.specs.Faults.{IsOutside}
use Rattle.sqlval.specs.PageSizes.{IsPageSize}
use Rattle.sqlval.specs.declared.collation.Collation.{Collation}
use Rattle.sqlval.specs.declared.fault.Fault.{Fault}
use Rattle.sqlval.specs.declared.fault.Fault.TheVariants.{Memory}
use Rattle.sqlval.specs.declared.value.Value.{Value}
use Rattle.record.specs.Record.{IsRecord}
use Rattle.pages.specs.Calls.{IsOutsideOrFull}
use Rattle.pages.specs.Counting.{Moves}
use Rattle.pages.specs.Map.{PageMap, AreWhole}
use Rattle.freelist.specs.Calls.{HasFree, KeepsHeader}
use Rattle.tree_page.specs.Cells.{Pairwise}
use Rattle.tree_page.specs.Node.{Local, Node, Entries, Between, IsNode, IsEntryCell, IsBetweenCell}
use Rattle.tree_page.specs.declared.items.Kind.TheVariants.{IndexInterior}
use Rattle.tree_pack.specs.Packing.{images, divider_bytes, Packs}
use Rattle.tree_pack.specs.Splicing.{IsUsual}
use Rattle.tree_pack.specs.declared.spreading.Packed.{Packed}
use Rattle.tree_store.specs.Sides.{Side, Each, behind, children, each_of}
use Rattle.tree_store.specs.Storing.{cells_of}
use Rattle.tree_store.specs.declared.storing.Fan.{Fan}
use Rattle.tree_index.specs.Comparing.{HasEntries, ComeFirst, child_at, child_of, front_count, is_less}
use Rattle.tree_index.specs.Entries.{Entry, entry_cmp, AreEntries, AreLong, LeadsTo, has_entry, put_before, with_entries, with_entry}
use Rattle.tree_index.specs.Freeing.{StandsUnder, all_of, below_of}
use Rattle.tree_index.specs.Tree.{Held, IsHeldAs, IsKidAs, Leaf, Tree, top, entries_of, pages_of, Lies}
use Rattle.tree_index.specs.declared.growing.Change.{Change}
use Rattle.tree_index.specs.declared.growing.Change.TheVariants.{There, Same, Spread}
use Rattle.tree_index.specs.declared.placing.Step.{Step}
use Rattle.tree_index.specs.declared.placing.Step.TheVariants.{Found, Here, Down}
use Rattle.tree_pack.specs.Building.{cell_room}
use Rattle.tree_pack.specs.Parts.{total}

-- ---- the way down

-- the entry at a place equals this one
abbrev pub IsEqualAt : List Collation → List Value → List Held → ℕ → Type 0
IsEqualAt columns entry entries place = (place < length entries) × ((d : Held) → is_eq (entry_cmp columns entry (slice_index_or entries place d).entry) ≡ true)

-- The way to an entry goes on so: it ends where it is, or at its place on a leaf; else it goes on to the child at its place.
abbrev pub IsStep : List Collation → List Value → Node → List Held → Step → Type 0
IsStep columns entry node entries (Found place) =
    (place ≡ front_count (is_less columns entry) entries) × IsEqualAt columns entry entries place
IsStep columns entry node entries (Here place) =
    (place ≡ front_count (is_less columns entry) entries) × (IsEqualAt columns entry entries place → ⊥) × (child_of place node ≡ None)
IsStep columns entry node entries (Down place child) =
    (place ≡ front_count (is_less columns entry) entries) × (IsEqualAt columns entry entries place → ⊥) × (child_of place node ≡ Some child)

-- whether the entry at a place equals this one was found; or memory was short, or a disk's call failed
abbrev pub FindsEqual : PageMap → ℕ → ℕ → ℕ → List Collation → List Value → Result Bool Fault → Type 0
FindsEqual pages size number place columns entry result = (node : Node) (entries : List Held) → AreWhole size pages
    → HasEntries pages size number node entries
    → MatchResult result (λ same. (same ≡ true → IsEqualAt columns entry entries place) × (same ≡ false → IsEqualAt columns entry entries place → ⊥)) IsOutside

-- where the entries that are less come first, it was found how the way goes on; or memory was short, or a disk's call failed
abbrev pub StepsFrom : PageMap → ℕ → ℕ → List Collation → List Value → Result Step Fault → Type 0
StepsFrom pages size number columns entry result = (node : Node) (entries : List Held) → AreWhole size pages
    → HasEntries pages size number node entries → ComeFirst (is_less columns entry) entries
    → MatchResult result (IsStep columns entry node entries) IsOutside

-- ---- children, where others stand in place of one

-- The children where these stand in place of the one at a place: the last of them takes what stood after it, or is the last child.
abbrev pub replaced : {T K : Type 0} → ℕ → Side T K → List (T × K) → T → Side T K
replaced place window [] last = window
replaced zero window (kid ∷ kids) last = (window.0 ++ (window.1, kid.1) ∷ kids, last)
replaced (suc place) window (kid ∷ kids) last = behind (kid ∷ []) (replaced place window kids last)

-- where a cell has a child's number and an entry, the other one has this number and the entry
abbrev pub Parents : ℕ → List ℕ → ℕ → Result (Vec ℕ) Fault → Type 0
Parents usable cell child result = (kid : ℕ × Local) → IsBetweenCell usable cell kid
    → MatchResult result (λ moved. IsBetweenCell usable moved.items (child, kid.1) × (length moved.items ≡ length cell)) (λ fault. fault ≡ Memory)

-- the children are packed, on at most two pages, and on no more room than the page and the fan's cells had
pub record IsFanned (page : List ℕ) (side : Side ℕ Local) (fan : Fan) (packed : Packed) : Type 0 where
  pub rises : Bool
  pub cells : List (List ℕ)
  pub packs : Packs IndexInterior (length page) [] rises cells (Between side.0 side.1) packed
  pub say : Pairwise (IsBetweenCell (length page)) cells side.0
  pub room : total (map cell_room cells) + 12 ≤ length page + total (map cell_room (cells_of fan))
  pub few : length packed.pieces.items ≤ 1

-- where the page is an interior one and the fan's cells, at most two, say these children, they are packed with it; or memory was short
abbrev pub Fans : List ℕ → ℕ → Fan → Result Packed Fault → Type 0
Fans page place fan result = (said news : List (ℕ × Local)) (last : ℕ) → IsNode page 0 (Between said last) → IsUsual page 0
    → place ≤ length said → fan.last < 2 ^ 32 → Pairwise (IsBetweenCell (length page)) (cells_of fan) news → length news ≤ 2
    → MatchResult result (IsFanned page (replaced place (news, fan.last) said last) fan) (λ fault. fault ≡ Memory)

-- ---- subtrees whose top page isn't stored

-- the tree's page at the top has to say this, and all below it lies on its pages
abbrev pub Shows : PageMap → ℕ → (depth : ℕ) → Tree depth → Node → Type 0
Shows map size zero t node = (said : List Local) × (node ≡ Entries said) × Pairwise (IsHeldAs map size) said t.entries
Shows map size (suc depth) t node =
    (said : List (ℕ × Local)) × (node ≡ Between said (top depth t.last)) × Pairwise (IsKidAs map size) said (children (top depth) t.kids)
    × Each (Lies map size depth) t.kids t.last

-- these bytes are the tree's page at the top
pub record IsTop (map : PageMap) (size depth : ℕ) (image : List ℕ) (t : Tree depth) : Type 0 where
  pub node : Node
  pub says : IsNode image 0 node
  pub shows : Shows map size depth t node

-- the bytes are an entry's cell
pub record IsDivider (map : PageMap) (size : ℕ) (bytes : List ℕ) (held : Held) : Type 0 where
  pub said : Local
  pub cell : IsEntryCell size bytes said
  pub is : IsHeldAs map size said held

-- the entries of subtrees with those between them
abbrev pub entries_in : (depth : ℕ) → List (Tree depth × Held) → Tree depth → List Entry
entries_in depth kids last = each_of (entries_of depth) (λ held. held.entry ∷ []) kids last

-- Packed pages, at most three, are the tops of subtrees of these entries, whose other pages are stored.
pub record IsPlanned (old new : PageMap) (size depth : ℕ) (entries : List Entry) (used free : List ℕ) (packed : Packed) : Type 0 where
  pub kids : List (Tree depth × Held)
  pub last : Tree depth
  pub tops : Pairwise (IsTop new size depth) (images packed) (all_of kids last)
  pub divide : Pairwise (IsDivider new size) (divider_bytes packed) (map (λ kid. kid.1) kids)
  pub entries_are : entries_in depth kids last ≡ entries
  pub now_free : List ℕ
  pub has : HasFree new size now_free
  pub moves : Moves old new used free (each_of (below_of depth) (λ held. held.pages) kids last) now_free
  pub header : KeepsHeader old new
  pub sized : AllByRecursion (λ image. length image ≡ size) (images packed)
  pub few : length packed.pieces.items ≤ 2

-- ---- changes

-- a tree of rising entries under a page, with free pages beside it
pub record IsUnder (map : PageMap) (size number ways : ℕ) (columns : List Collation) (depth : ℕ) (t : Tree depth) (free : List ℕ) : Type 0 where
  pub stands : StandsUnder map size number ways depth t free
  pub sorted : AreEntries columns (entries_of depth t)
  pub sized : IsPageSize size

-- the tree under this page has these entries now
pub record IsPut (old new : PageMap) (size number depth : ℕ) (entries : List Entry) (used free : List ℕ) : Type 0 where
  pub tree : Tree depth
  pub top_is : top depth tree ≡ number
  pub lies : Lies new size depth tree
  pub entries_are : entries_of depth tree ≡ entries
  pub now_free : List ℕ
  pub has : HasFree new size now_free
  pub moves : Moves old new used free (pages_of depth tree) now_free
  pub header : KeepsHeader old new

-- whether the tree is as deep as may be
pub record IsDeep (ways depth : ℕ) (deep : Bool) : Type 0 where
  pub full : deep ≡ true → ways ≤ depth
  pub short : deep ≡ false → depth < ways

-- one of the entries is less than this one, and one is greater, and none equals it
abbrev pub StandsWithin : List Collation → Entry → List Entry → Type 0
StandsWithin columns entry entries =
    (list_any (λ other. is_gt (entry_cmp columns entry other)) entries ≡ true) × (list_any (λ other. is_lt (entry_cmp columns entry other)) entries ≡ true)
    × (has_entry columns entry entries ≡ false)

-- each of these stands within the entries when its turn comes, after those before it have come
abbrev pub ComeWithin : List Collation → List Entry → List Entry → Type 0
ComeWithin columns [] entries = ⊤
ComeWithin columns (come ∷ more) entries = StandsWithin columns come entries × ComeWithin columns more (with_entry columns come entries)

-- the tree under a page has these entries now, and so many of the rest, each of which stood within them in its turn
abbrev pub AreAlsoPut : PageMap → PageMap → ℕ → ℕ → (depth : ℕ) → List Collation → List Entry → List Entry → List ℕ → List ℕ → ℕ → Type 0
AreAlsoPut old new size number depth columns rest entries used free more =
    (more ≤ length rest) × ComeWithin columns (take more rest) entries
    × IsPut old new size number depth (with_entries columns (take more rest) entries) used free

-- what became of a page: an entry that equals the key is there, and nothing changed; or none is, and the tree under the page has the new
-- entry now, and some of the rest; or packed pages have to take its place
abbrev pub IsChanged : PageMap → PageMap → ℕ → ℕ → ℕ → List Collation → List Value → Entry → List Entry → (depth : ℕ) → Tree depth → List ℕ → Change → Type 0
IsChanged old new size number ways columns key entry rest depth t free There = (has_entry columns key (entries_of depth t) ≡ true) × (new ≡ old)
IsChanged old new size number ways columns key entry rest depth t free (Same more) =
    (has_entry columns key (entries_of depth t) ≡ false)
    × AreAlsoPut old new size number depth columns rest (put_before columns key entry (entries_of depth t)) (pages_of depth t) free more
IsChanged old new size number ways columns key entry rest depth t free (Spread packed deep) =
    (has_entry columns key (entries_of depth t) ≡ false) × IsDeep ways depth deep
    × IsPlanned old new size depth (put_before columns key entry (entries_of depth t)) (below_of depth t) free packed

-- where a tree stands under a page, this becomes of it; or memory was short, a disk's call failed, or there are as many pages as
-- there may be
abbrev pub Changes : PageMap → PageMap → ℕ → ℕ → ℕ → List Collation → List Value → List ℕ → List Entry → Result Change Fault → Type 0
Changes old new size number ways columns key payload rest result = (entry : Entry) (depth : ℕ) (t : Tree depth) (free : List ℕ)
    → IsUnder old size number ways columns depth t free → LeadsTo columns key entry → IsRecord payload entry → AreLong columns (entry ∷ rest)
    → MatchResult result (IsChanged old new size number ways columns key entry rest depth t free) IsOutsideOrFull

-- the entries of a leaf with one more at a place
abbrev pub entries_put : ℕ → Entry → Leaf → List Entry
entries_put place entry t = take place (entries_of zero t) ++ (entry ∷ drop place (entries_of zero t))

-- the way to an entry goes on to the child at a place of a page
pub record IsWayTo (columns : List Collation) (entry : List Value) (depth : ℕ) (t : Tree (suc depth)) (place child : ℕ) : Type 0 where
  pub place_is : place ≡ front_count (is_less columns entry) (map (λ kid. kid.1) t.kids)
  pub other : IsEqualAt columns entry (map (λ kid. kid.1) t.kids) place → ⊥
  pub child_is : child ≡ child_at place (children (top depth) t.kids) (top depth t.last)

-- the leaf has the entry too; or packed pages have to take its place
abbrev pub IsPutOrPlanned : PageMap → PageMap → ℕ → ℕ → ℕ → Entry → Leaf → List ℕ → Option Packed → Type 0
IsPutOrPlanned old new size number place entry t free None = IsPut old new size number zero (entries_put place entry t) (pages_of zero t) free
IsPutOrPlanned old new size number place entry t free (Some packed) =
    IsPlanned old new size zero (entries_put place entry t) (below_of zero t) free packed

-- an entry is put on a leaf, after so many of its entries, or packed pages have to take the leaf's place
abbrev pub PlansLeaf : PageMap → PageMap → ℕ → ℕ → ℕ → List ℕ → Result (Option Packed) Fault → Type 0
PlansLeaf old new size number place payload result = (entry : Entry) (ways : ℕ) (t : Leaf) (free : List ℕ) → StandsUnder old size number ways zero t free
    → IsPageSize size → IsRecord payload entry → place ≤ length t.entries
    → MatchResult result (IsPutOrPlanned old new size number place entry t free) IsOutsideOrFull

-- where packed pages have to take the place of a child, this becomes of the page above
abbrev pub Widens : PageMap → PageMap → ℕ → ℕ → ℕ → ℕ → Packed → Bool → Result Change Fault → Type 0
Widens mid new size number place child packed deep result =
    (old : PageMap) (ways : ℕ) (columns : List Collation) (key : List Value) (entry : Entry) (payload : List ℕ) (rest : List Entry) (depth : ℕ) (t : Tree (suc depth)) (free : List ℕ)
    → IsUnder old size number (suc ways) columns (suc depth) t free → LeadsTo columns key entry → IsRecord payload entry → AreLong columns (entry ∷ rest)
    → IsWayTo columns key depth t place child
    → Changes old mid size child ways columns key payload rest (Ok (Spread packed deep))
    → MatchResult result (IsChanged old new size number (suc ways) columns key entry rest (suc depth) t free) IsOutsideOrFull

-- what became of a leaf: it has these entries now, and so many of the rest; or packed pages have to take its place
abbrev pub IsLeafChanged : PageMap → PageMap → ℕ → ℕ → Bool → List Collation → List Entry → List Entry → Leaf → List ℕ → Change → Type 0
IsLeafChanged old new size number deep columns rest entries t free There = ⊥
IsLeafChanged old new size number deep columns rest entries t free (Same more) = AreAlsoPut old new size number zero columns rest entries (pages_of zero t) free more
IsLeafChanged old new size number deep columns rest entries t free (Spread packed is_deep) =
    (is_deep ≡ deep) × IsPlanned old new size zero entries (below_of zero t) free packed

-- where a tree is a leaf, this becomes of it when an entry is put on it, after so many of its entries, and some of the rest; or memory was short, a
-- disk's call failed, or there are as many pages as there may be
abbrev pub PutsOnLeaf : PageMap → PageMap → ℕ → ℕ → ℕ → Bool → List Collation → List ℕ → List Entry → Result Change Fault → Type 0
PutsOnLeaf old new size number place deep columns payload rest result = (entry : Entry) (ways : ℕ) (t : Leaf) (free : List ℕ)
    → StandsUnder old size number ways zero t free → IsPageSize size → IsRecord payload entry → place ≤ length t.entries
    → AreEntries columns (entries_put place entry t) → AreLong columns rest
    → MatchResult result (IsLeafChanged old new size number deep columns rest (entries_put place entry t) t free) IsOutsideOrFull
