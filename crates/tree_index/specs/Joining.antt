-- How two subtrees side by side in an index's tree are joined.
use Rattle.std.specs.Prelude.{◌≡◌, ◌≤◌, ◌<◌, ◌+◌, ◌^◌, ℕ, zero, suc, false, List, [], ◌∷◌, ◌++◌, length, map, slice_index_or, Result, MatchResult}
use Rattle.std.specs.Global.{Vec}
use Rattle.sqlval.specs.Faults.{IsOutside}
use Rattle.sqlval.specs.PageSizes.{IsPageSize}
use Rattle.sqlval.specs.declared.fault.Fault.{Fault}
use Rattle.sqlval.specs.declared.fault.Fault.TheVariants.{Memory}
use Rattle.pages.specs.Calls.{IsOutsideOrFull}
use Rattle.pages.specs.Counting.{occurs}
use Rattle.pages.specs.Map.{PageMap, AreWhole}
use Rattle.freelist.specs.Calls.{AreFree}
use Rattle.tree_page.specs.Cells.{Pairwise}
use Rattle.tree_page.specs.Node.{Local, Node, Between, IsNode, IsBetweenCell, code_of, right_of}
use Rattle.tree_page.specs.Reading.{type_of}
use Rattle.tree_page.specs.declared.items.Kind.{Kind}
use Rattle.tree_page.specs.declared.items.Kind.TheVariants.{IndexInterior}
use Rattle.tree_pack.specs.Packing.{AreOf, Packs}
use Rattle.tree_pack.specs.Splicing.{IsUsual}
use Rattle.tree_pack.specs.declared.spreading.Packed.{Packed}
use Rattle.tree_store.specs.Saying.{Says}
use Rattle.tree_store.specs.Sides.{Side, each_of}
use Rattle.tree_store.specs.Storing.{cells_of}
use Rattle.tree_store.specs.declared.storing.Fan.{Fan}
use Rattle.tree_index.specs.Comparing.{HasEntries, child_at}
use Rattle.tree_index.specs.Entries.{Entry}
use Rattle.tree_index.specs.Freeing.{StandsUnder, chains_of, below_of}
use Rattle.tree_index.specs.Growing.{replaced, IsDivider, IsFanned, IsPlanned}
use Rattle.tree_index.specs.Tree.{Held, Tree, top, entries_of, pages_of, Lies}

-- ---- a row of subtrees, by places

-- the subtree at a place
abbrev pub tree_at : {T K : Type 0} → ℕ → List (T × K) → T → T
tree_at place [] last = last
tree_at zero (kid ∷ kids) last = kid.0
tree_at (suc place) (kid ∷ kids) last = tree_at place kids last

-- what the row gives on its left
abbrev pub left_at : {T K X : Type 0} → (T → List X) → (K → List X) → ℕ → List (T × K) → T → List X
left_at f between place [] last = []
left_at f between zero (kid ∷ kids) last = []
left_at f between (suc place) (kid ∷ kids) last = f kid.0 ++ (between kid.1 ++ left_at f between place kids last)

-- and on its right
abbrev pub right_at : {T K X : Type 0} → (T → List X) → (K → List X) → ℕ → List (T × K) → T → List X
right_at f between place [] last = []
right_at f between zero (kid ∷ kids) last = between kid.1 ++ each_of f between kids last
right_at f between (suc place) (kid ∷ kids) last = right_at f between place kids last

-- the entry after it, where there is one
abbrev pub held_at : {T : Type 0} → ℕ → List (T × Held) → List Held
held_at place [] = []
held_at zero (kid ∷ kids) = kid.1 ∷ []
held_at (suc place) (kid ∷ kids) = held_at place kids

-- the items without the one at a place
abbrev pub without_at : {A : Type 0} → ℕ → List A → List A
without_at place [] = []
without_at zero (item ∷ items) = items
without_at (suc place) (item ∷ items) = item ∷ without_at place items

-- the tree's entries, with these in place of those of the subtrees at a place and after it, and of the entry between them
abbrev pub entries_around : (depth : ℕ) → ℕ → List Entry → Tree (suc depth) → List Entry
entries_around depth place entries t =
    left_at (entries_of depth) (λ held. held.entry ∷ []) place t.kids t.last
    ++ (entries ++ right_at (entries_of depth) (λ held. held.entry ∷ []) (suc place) t.kids t.last)

-- the pages of the subtrees at a place and after it, except for their tops, and of the entry between them
abbrev pub pair_below : (depth : ℕ) → ℕ → Tree (suc depth) → List ℕ
pair_below depth place t =
    below_of depth (tree_at place t.kids t.last) ++ (chains_of (held_at place t.kids) ++ below_of depth (tree_at (suc place) t.kids t.last))

-- ---- two trees side by side

-- Trees under two pages, with free pages beside them: no page is used or free twice, and page 1 is none of the trees'.
pub record AreBeside (map : PageMap) (size left right depth : ℕ) (a b : Tree depth) (free : List ℕ) : Type 0 where
  pub left_is : top depth a ≡ left
  pub right_is : top depth b ≡ right
  pub lies_left : Lies map size depth a
  pub lies_right : Lies map size depth b
  pub apart : (n : ℕ) → occurs n (pages_of depth a) + occurs n (pages_of depth b) + occurs n free ≤ 1
  pub first : occurs 1 (pages_of depth a) + occurs 1 (pages_of depth b) ≡ 0
  pub free_are : AreFree map size free
  pub sized : IsPageSize size

-- where two trees are side by side, packed pages have to take their place; or memory was short, a disk's call failed, or there are as many
-- pages as there may be
abbrev pub Unites : PageMap → PageMap → ℕ → ℕ → ℕ → ℕ → Result Packed Fault → Type 0
Unites old new size left right depth result = (a b : Tree depth) (free : List ℕ) → AreBeside old size left right depth a b free
    → MatchResult result (IsPlanned old new size depth (entries_of depth a ++ entries_of depth b) (below_of depth a ++ below_of depth b) free) IsOutsideOrFull

-- where two trees are side by side, and the cell is an entry's, packed pages have to take their place, with the entry; or memory was short, or
-- a disk's call failed
abbrev pub Binds : PageMap → ℕ → ℕ → List ℕ → ℕ → ℕ → Result Packed Fault → Type 0
Binds map size left entry right depth result = (a b : Tree depth) (held : Held) (free : List ℕ) → AreBeside map size left right depth a b free
    → IsDivider map size entry held
    → MatchResult result (IsPlanned map map size depth (entries_of depth a ++ held.entry ∷ entries_of depth b) (below_of depth a ++ (held.pages ++ below_of depth b)) free) IsOutside

-- ---- an interior page and two of its children

-- the child at a place is found; or memory was short, or a disk's call failed
abbrev pub FindsKid : PageMap → ℕ → ℕ → ℕ → Result ℕ Fault → Type 0
FindsKid map size number place result = (said : List (ℕ × Local)) (last : ℕ) → AreWhole size map → Says map number (Between said last)
    → MatchResult result (λ child. child ≡ child_at place said last) IsOutside

-- the last child is found; or memory was short, or a disk's call failed
abbrev pub FindsLastKid : PageMap → ℕ → ℕ → Result ℕ Fault → Type 0
FindsLastKid map size number result = (said : List (ℕ × Local)) (last : ℕ) (entries : List Held) → AreWhole size map
    → HasEntries map size number (Between said last) entries → MatchResult result (λ child. child ≡ last) IsOutside

-- the cell of the entry at a place is given; or memory was short, or a disk's call failed
abbrev pub GivesEntry : PageMap → ℕ → ℕ → ℕ → Result (Vec ℕ) Fault → Type 0
GivesEntry map size number place result = (node : Node) (entries : List Held) (d : Held) → AreWhole size map → IsPageSize size
    → HasEntries map size number node entries → place < length entries
    → MatchResult result (λ cell. IsDivider map size cell.items (slice_index_or entries place d)) IsOutside

-- where the trees at a place and after it give way to packed pages, other ones have to take the place of the page above; or memory was short,
-- a disk's call failed, or there are as many pages as there may be
abbrev pub SpreadsTwo : PageMap → PageMap → ℕ → ℕ → ℕ → ℕ → ℕ → Packed → Result Packed Fault → Type 0
SpreadsTwo mid new size number place left right packed result =
    (old : PageMap) (ways depth : ℕ) (t : Tree (suc depth)) (free : List ℕ) (entries : List Entry) → StandsUnder old size number ways (suc depth) t free
    → IsPageSize size → place < length t.kids → top depth (tree_at place t.kids t.last) ≡ left → top depth (tree_at (suc place) t.kids t.last) ≡ right
    → IsPlanned old mid size depth entries (pair_below depth place t) free packed
    → MatchResult result (IsPlanned old new size (suc depth) (entries_around depth place entries t) (below_of (suc depth) t) free) IsOutsideOrFull

-- where a tree stands under an interior page, packed pages have to take its place, with the same entries; or memory was short, a disk's call
-- failed, or there are as many pages as there may be
abbrev pub JoinsAt : PageMap → PageMap → ℕ → ℕ → ℕ → ℕ → Result Packed Fault → Type 0
JoinsAt old new size number place depth result = (ways : ℕ) (t : Tree (suc depth)) (free : List ℕ) → StandsUnder old size number ways (suc depth) t free
    → IsPageSize size → place < length t.kids
    → MatchResult result (IsPlanned old new size (suc depth) (entries_of (suc depth) t) (below_of (suc depth) t) free) IsOutsideOrFull

-- the same, without the entry at the place
abbrev pub PartsAt : PageMap → PageMap → ℕ → ℕ → ℕ → ℕ → Result Packed Fault → Type 0
PartsAt old new size number place depth result = (ways : ℕ) (t : Tree (suc depth)) (free : List ℕ) → StandsUnder old size number ways (suc depth) t free
    → IsPageSize size → place < length t.kids
    → MatchResult result (IsPlanned old new size (suc depth)
    (entries_around depth place (entries_of depth (tree_at place t.kids t.last) ++ entries_of depth (tree_at (suc place) t.kids t.last)) t)
    (below_of (suc depth) t) free) IsOutsideOrFull

-- ---- the cells of pages

-- where the cells of two pages of one kind, and those given between them, say a node, it is packed, with the last child of the second; or
-- memory was short, or a disk's call failed
abbrev pub Merges : List ℕ → List (List ℕ) → List ℕ → Result Packed Fault → Type 0
Merges left between right result =
    (kind : Kind) (a b new : Node) (is_a : IsNode left 0 a) (is_b : IsNode right 0 b) → IsUsual left 0 → length right ≡ length left
    → type_of kind ≡ code_of a → code_of a ≡ code_of b → AreOf kind (length left) (right_of b) (is_a.cells ++ (between ++ is_b.cells)) new
    → MatchResult result (Packs kind (length left) [] false (is_a.cells ++ (between ++ is_b.cells)) new) IsOutside

-- these children are packed, on at most three pages
pub record IsSeamed (page_size : ℕ) (side : Side ℕ Local) (packed : Packed) : Type 0 where
  pub cells : List (List ℕ)
  pub packs : Packs IndexInterior page_size [] false cells (Between side.0 side.1) packed
  pub few : length packed.pieces.items ≤ 2

-- Where both pages are interior ones, and the fan's cells say these children, those of the pages are packed, with the fan in place of the
-- first page's last child and the second one's first child; or memory was short, or a disk's call failed.
abbrev pub Seams : PageMap → ℕ → ℕ → Fan → ℕ → Result Packed Fault → Type 0
Seams map size left fan right result =
    (said news more : List (ℕ × Local)) (last end : ℕ) → AreWhole size map → IsPageSize size → 1 < left → 1 < right
    → Says map left (Between said last) → Says map right (Between more end) → fan.last < 2 ^ 32 → Pairwise (IsBetweenCell size) (cells_of fan) news
    → length news ≤ 2
    → MatchResult result (IsSeamed size (replaced (length said) (replaced zero (news, fan.last) more end) said last)) IsOutside

-- where the page is an interior one and the fan's cells say these children, they are packed in place of two of the page's; or memory was short
abbrev pub FansTwo : List ℕ → ℕ → Fan → Result Packed Fault → Type 0
FansTwo page place fan result = (said news : List (ℕ × Local)) (last : ℕ) → IsNode page 0 (Between said last) → IsUsual page 0
    → place < length said → fan.last < 2 ^ 32 → Pairwise (IsBetweenCell (length page)) (cells_of fan) news → length news ≤ 2
    → MatchResult result (IsFanned page (replaced place (news, fan.last) (without_at place said) last) fan) (λ fault. fault ≡ Memory)
