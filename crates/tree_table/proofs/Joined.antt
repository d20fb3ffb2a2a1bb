-- Two children of an interior page are joined.
use Rattle.std.proofs.Common.{◌≡◌, ◌≤◌, ◌<◌, ◌+◌, ◌^◌, ℕ, zero, suc, ℤ, pos, false, List, [], ◌∷◌, ◌++◌, length, map, slice_index_or, refl, sym, ap, subst, ◌∙◌, ◌⊎◌, inl, inr, arith}
use Rattle.std.proofs.lemmas.List.{length-map}
use Rattle.std.proofs.lemmas.Grind.{common_steps}
use Rattle.std.specs.Prelude.{Result, Ok, Err, MatchResult}
use Rattle.sqlval.specs.declared.fault.Fault.{Fault}
use Rattle.sqlval.specs.declared.fault.Fault.TheVariants.{Memory, Full}
use Rattle.sqlval.specs.Faults.{IsOutside}
use Rattle.tree_leaf.specs.Leaf.{Entry}
use Rattle.pages.specs.Calls.{IsOutsideOrFull}
use Rattle.pages.specs.Counting.{occurs, start_of, Moves}
use Rattle.pages.specs.Laws.{IsJoined}
use Rattle.pages.specs.Map.{PageMap, page_at, AreWhole, IsThere}
use Rattle.pages.proofs.Moving.{occurs_append}
use Rattle.freelist.proofs.Lists.{occurs_self}
use Rattle.tree_page.specs.Cells.{Pairwise}
use Rattle.tree_page.specs.Node.{Rows, Keys, IsNode, IsKeyCell}
use Rattle.tree_page.specs.declared.items.Kind.TheVariants.{TableLeaf}
use Rattle.tree_pack.specs.Building.{cell_room}
use Rattle.tree_pack.specs.Packing.{images, divider_bytes, Packs}
use Rattle.tree_pack.specs.Parts.{total}
use Rattle.tree_pack.specs.Splicing.{IsUsual}
use Rattle.tree_pack.specs.declared.spreading.Packed.{Packed}
use Rattle.tree_pack.specs.declared.spreading.Piece.{Piece}
use Rattle.tree_store.specs.Frames.{framed, left_of, right_of, Opens}
use Rattle.tree_store.specs.Saying.{Says}
use Rattle.tree_store.specs.Sides.{Side, children, each_of, nothing, Each, Parted}
use Rattle.tree_store.specs.Storing.{AreOlds, IsStored, Stores, cells_of}
use Rattle.tree_store.specs.declared.storing.Fan.{Fan}
use Rattle.tree_store.proofs.Windows.{frame_gives, opens, each_in}
use Rattle.tree_table.specs.Fanning.{fanned, IsFanned}
use Rattle.tree_table.specs.Growing.{below_of, IsTop, all_of, IsPlanned, IsUnder}
use Rattle.tree_table.specs.Joining.{IsPairAt, MergesRows, MergesKeys, AreKeysMerged, FansTwo, without_at}
use Rattle.tree_table.specs.Tree.{Tree, top, rows_of, pages_of, IsSorted, Lies}
use Rattle.tree_table.specs.declared.joining.Pair.{Pair}
use Rattle.tree_table.proofs.Branches.{plan_side}
use Rattle.tree_table.proofs.Few.{large_size}
use Rattle.tree_table.proofs.Growth.{few_cells}
use Rattle.tree_table.proofs.Holes.{Kids, keys_of, pages_in}
use Rattle.tree_table.proofs.MergedTrees.{AreMerged, merged_leaf, merged_inner}
use Rattle.tree_table.proofs.Pairs.{IsPair, pair}
use Rattle.tree_table.proofs.Passing.{top_there, beside_used, others_seen}
use Rattle.tree_table.proofs.Planting.{ArePlanted, plant, pages_split, after_one}
use Rattle.tree_table.proofs.Putting.{usual}
use Rattle.tree_table.proofs.Staying.{AreSeen, lies_stays, says_stays, shows_stays}

-- ---- trees of one depth that are merged

-- where the pages of two trees are packed together, they are the tops of all rows
pub merged_tops : (map' : PageMap) (size depth : ℕ) → (512 ≤ size) × (size ≤ 2 ^ 16) → AreWhole size map' → (low key high : ℤ) (a b : Tree depth) → Lies map' size depth a → Lies map' size depth b
    → IsSorted depth low a key → IsSorted depth key b high → 1 < top depth a → 1 < top depth b → (cell : List ℕ) (number : ℕ) → IsKeyCell cell (number, key) → (result : Result Packed Fault)
    → MergesRows (page_at map' (top depth a)) (page_at map' (top depth b)) result → MergesKeys (page_at map' (top depth a)) cell (page_at map' (top depth b)) result
    → MatchResult result (AreMerged map' size depth low high a b) IsOutside
merged_tops map' size zero sizes whole low key high a b lies_a lies_b sorted_a sorted_b far_a far_b cell number cell_is result rows keys =
    let says_a = lies_a.says in
    let says_b = lies_b.says in
    let long_a = whole a.page says_a.has in
    let long_b = whole b.page says_b.has in
    let is_a = subst (λ (start : ℕ). IsNode (page_at map' a.page) start (Rows lies_a.said)) (after_one a.page far_a) says_a.node_is in
    let is_b = subst (λ (start : ℕ). IsNode (page_at map' b.page) start (Rows lies_b.said)) (after_one b.page far_b) says_b.node_is in
    by is_a is_b long_a long_b result (rows lies_a.said lies_b.said is_a is_b (subst (λ (start : ℕ). IsUsual (page_at map' a.page) start) (after_one a.page far_a) (usual size a.page (page_at map' a.page) sizes long_a)) (long_b ∙ sym long_a))
  where
    by : (is_a : IsNode (page_at map' a.page) 0 (Rows lies_a.said)) (is_b : IsNode (page_at map' b.page) 0 (Rows lies_b.said)) → length (page_at map' a.page) ≡ size → length (page_at map' b.page) ≡ size
        → (result : Result Packed Fault)
        → MatchResult result (Packs TableLeaf (length (page_at map' a.page)) [] false (is_a.cells ++ is_b.cells) (Rows (lies_a.said ++ lies_b.said))) IsOutside → MatchResult result (AreMerged map' size zero low high a b) IsOutside
    by is_a is_b long_a long_b (Ok packed) packs = merged_leaf map' size sizes low key high a b lies_a lies_b sorted_a sorted_b (page_at map' a.page) (page_at map' b.page) is_a is_b long_a long_b packed packs
    by is_a is_b long_a long_b (Err fault) outside = outside
merged_tops map' size (suc depth) sizes whole low key high a b lies_a lies_b sorted_a sorted_b far_a far_b cell number cell_is result rows keys =
    let says_a = lies_a.0 in
    let says_b = lies_b.0 in
    let long_a = whole a.page says_a.has in
    let long_b = whole b.page says_b.has in
    let node_a = Keys (children (top depth) a.kids) (top depth a.last) in
    let node_b = Keys (children (top depth) b.kids) (top depth b.last) in
    let is_a = subst (λ (start : ℕ). IsNode (page_at map' a.page) start node_a) (after_one a.page far_a) says_a.node_is in
    let is_b = subst (λ (start : ℕ). IsNode (page_at map' b.page) start node_b) (after_one b.page far_b) says_b.node_is in
    by is_a is_b long_a long_b result (keys (children (top depth) a.kids) (children (top depth) b.kids) (top depth a.last) (top depth b.last) (number, key) is_a is_b cell_is
    (subst (λ (start : ℕ). IsUsual (page_at map' a.page) start) (after_one a.page far_a) (usual size a.page (page_at map' a.page) sizes long_a)) (long_b ∙ sym long_a))
  where
    by : (is_a : IsNode (page_at map' a.page) 0 (Keys (children (top depth) a.kids) (top depth a.last))) (is_b : IsNode (page_at map' b.page) 0 (Keys (children (top depth) b.kids) (top depth b.last)))
        → length (page_at map' a.page) ≡ size → length (page_at map' b.page) ≡ size → (result : Result Packed Fault)
        → MatchResult result (AreKeysMerged (length (page_at map' a.page)) is_a.cells is_b.cells (children (top depth) a.kids) (children (top depth) b.kids) (top depth a.last) (top depth b.last) cell key) IsOutside
        → MatchResult result (AreMerged map' size (suc depth) low high a b) IsOutside
    by is_a is_b long_a long_b (Ok packed) are =
        merged_inner map' size depth sizes low key high a b lies_a lies_b sorted_a sorted_b (page_at map' a.page) (page_at map' b.page) is_a is_b long_a long_b cell number cell_is packed are
    by is_a is_b long_a long_b (Err fault) outside = outside

-- ---- tops that stay

-- tops of subtrees stay where the pages below them are seen as before
tops_seen : (old new : PageMap) → length old ≤ length new → (size : ℕ) → AreWhole size old → AreWhole size new → (depth start : ℕ) (all : List ℕ) → AreSeen old new all
    → (pages : List (List ℕ)) (kids : Kids depth) (last : Tree depth) → ((n : ℕ) → occurs n (each_of (below_of depth) nothing kids last) ≤ occurs n all)
    → Pairwise (IsTop old size depth start) pages (all_of kids last) → Pairwise (IsTop new size depth start) pages (all_of kids last)
tops_seen old new longer size whole whole_now depth start all are pages kids last among tops = by pages kids last among tops
  where
    one : (page : List ℕ) (u : Tree depth) → ((n : ℕ) → occurs n (below_of depth u) ≤ occurs n all) → IsTop old size depth start page u → IsTop new size depth start page u
    one page u some is = record {
      node = is.node;
      says = is.says;
      shows = shows_stays old new longer size whole whole_now depth u is.node (record { same = λ n from to so. are.same n from to (let m = some n in omega (arith, m, so)) }) is.shows;
    }

    by : (pages : List (List ℕ)) (kids : Kids depth) (last : Tree depth) → ((n : ℕ) → occurs n (each_of (below_of depth) nothing kids last) ≤ occurs n all)
        → Pairwise (IsTop old size depth start) pages (all_of kids last) → Pairwise (IsTop new size depth start) pages (all_of kids last)
    by [] [] last among tops = absurd tops
    by [] (kid ∷ kids) last among tops = absurd tops
    by (page ∷ []) [] last among tops = (one page last among tops.0, tt)
    by (page ∷ other ∷ pages) [] last among tops = absurd tops.1
    by (page ∷ pages) (kid ∷ kids) last among tops =
        let both = λ (n : ℕ). occurs_append n (below_of depth kid.0) (each_of (below_of depth) nothing kids last) in (
          one page kid.0 (λ n. (let m = among n in let e = both n in omega (arith, m, e))) tops.0,
          by pages kids last (λ n. (let m = among n in let e = both n in omega (arith, m, e))) tops.1,
        )

pub children_len : (depth : ℕ) (kids : Kids depth) → length (children (top depth) kids) ≡ length kids
children_len depth [] = refl
children_len depth (kid ∷ kids) = ap suc (children_len depth kids)

not_one : (n : ℕ) (rest : List ℕ) → 1 ≤ n → occurs 1 (n ∷ rest) ≡ 0 → 1 < n
not_one n rest some none = grind (arith, common_steps)

full_or : {A : Type 0} (fault : Fault) → IsOutside fault ⊎ ((fault ≡ Full) × A) → IsOutsideOrFull fault
full_or fault (inl outside) = inl outside
full_or fault (inr full) = inr full.0

-- ---- a page and two of its children

module _ (old : PageMap) (size number ways : ℕ) (rowid : ℤ) (depth : ℕ) (low : ℤ) (t : Tree (suc depth)) (high : ℤ) (free : List ℕ) (under : IsUnder old size number ways rowid (suc depth) low t high free)
    (place : ℕ) (found : Pair) (at : IsPairAt (children (top depth) t.kids) (top depth t.last) place found) where
  abbrev Row : Type 0
  Row = Side (Tree depth) ℤ

  pub p : IsPair depth t.kids t.last found.place
  p = pair depth t.kids t.last found.place (let lt = at.within in let e = children_len depth t.kids in omega (arith, lt, e))

  abbrev window : Row
  window = ((p.left, p.key) ∷ [], p.right)

  pub o : Opens (IsSorted depth) low p.frame window high
  o = opens (IsSorted depth) low p.frame window high (subst (λ (s : Row). Parted (IsSorted depth) low s.0 s.1 high) (sym p.whole) under.sorted)

  both : Lies old size depth p.left × Lies old size depth p.right
  both = each_in (Lies old size depth) p.frame window (subst (λ (s : Row). Each (Lies old size depth) s.0 s.1) (sym p.whole) (under.lies).1)

  whole_old : AreWhole size old
  whole_old = (under.free_are).whole

  left_page : found.left ≡ top depth p.left
  left_page = at.left_is ∙ p.left_is

  right_page : found.right ≡ top depth p.right
  right_page = at.right_is ∙ p.right_is

  far_left : 1 < top depth p.left
  far_left = (let none = under.first in let two = p.two 1 in let e = ap (occurs 1) (pages_split depth p.left) in
      not_one (top depth p.left) (below_of depth p.left) (top_there old size depth p.left both.0).first (omega (arith, none, two, e)))

  far_right : 1 < top depth p.right
  far_right = (let none = under.first in let two = p.two 1 in let e = ap (occurs 1) (pages_split depth p.right) in
      not_one (top depth p.right) (below_of depth p.right) (top_there old size depth p.right both.1).first (omega (arith, none, two, e)))

  cell_is : IsKeyCell found.cell.items ((slice_index_or (children (top depth) t.kids) found.place (0, pos 0)).0, p.key)
  cell_is = subst (λ (k : ℤ). IsKeyCell found.cell.items ((slice_index_or (children (top depth) t.kids) found.place (0, pos 0)).0, k)) (p.key_is (0, pos 0)) at.cell_is

  pub left_there : IsThere old size found.left
  left_there = subst (λ (n : ℕ). IsThere old size n) (sym left_page) (let has = top_there old size depth p.left both.0 in record { has = has; whole = whole_old (top depth p.left) has })

  pub right_there : IsThere old size found.right
  right_there = subst (λ (n : ℕ). IsThere old size n) (sym right_page) (let has = top_there old size depth p.right both.1 in record { has = has; whole = whole_old (top depth p.right) has })

  -- their pages are packed together
  pub merged_or : (result : Result Packed Fault) → MergesRows (page_at old found.left) (page_at old found.right) result
      → MergesKeys (page_at old found.left) found.cell.items (page_at old found.right) result → MatchResult result (AreMerged old size depth o.from o.to p.left p.right) IsOutside
  merged_or result rows keys =
      merged_tops old size depth (large_size size under.sized) whole_old o.from p.key o.to p.left p.right both.0 both.1 (o.parted).0 (o.parted).1 far_left far_right found.cell.items _ cell_is result
      (subst (λ (n : ℕ). MergesRows (page_at old (top depth p.left)) (page_at old n) result) right_page (subst (λ (n : ℕ). MergesRows (page_at old n) (page_at old found.right) result) left_page rows))
      (subst (λ (n : ℕ). MergesKeys (page_at old (top depth p.left)) found.cell.items (page_at old n) result) right_page
      (subst (λ (n : ℕ). MergesKeys (page_at old n) found.cell.items (page_at old found.right) result) left_page keys))

  apart_two : (n : ℕ) → occurs n (pages_of depth p.left) + occurs n (pages_of depth p.right) + occurs n free ≤ 1
  apart_two n = (let all = under.apart n in let two = p.two n in omega (arith, all, two))

  abbrev olds : List ℕ
  olds = top depth p.left ∷ top depth p.right ∷ []

  abbrev belows : List ℕ
  belows = below_of depth p.left ++ below_of depth p.right

  -- the pages of both, told by their tops and what is below
  split_two : (n : ℕ) → occurs n (pages_of depth p.left) + occurs n (pages_of depth p.right) ≡ occurs n olds + occurs n belows
  split_two n =
      let a = ap (occurs n) (pages_split depth p.left) in
      let b = ap (occurs n) (pages_split depth p.right) in
      let c = occurs_append n (below_of depth p.left) (below_of depth p.right) in
      omega (arith, a, b, c)

  can_store_two : AreOlds old free olds
  can_store_two = record {
    there = (top_there old size depth p.left both.0, (top_there old size depth p.right both.1, tt));
    after = (far_left, (far_right, tt));
    once = record { once = λ n. (let one = apart_two n in let two = split_two n in let e = occurs_append n olds free in omega (arith, one, two, e)) };
  }

  module _ (merged : Packed) (m : AreMerged old size depth o.from o.to p.left p.right merged) where
    pub store_two : (new : PageMap) (result : Result Fan Fault) → Stores old new size (found.left ∷ found.right ∷ []) merged result
        → MatchResult result (IsStored old new size olds free merged) IsOutsideOrFull
    store_two new result stores = by result (subst (λ (n : ℕ). Stores old new size (top depth p.left ∷ n ∷ []) merged result) right_page
        (subst (λ (n : ℕ). Stores old new size (n ∷ found.right ∷ []) merged result) left_page stores))
      where
        by : (result : Result Fan Fault) → Stores old new size olds merged result → MatchResult result (IsStored old new size olds free merged) IsOutsideOrFull
        by (Ok fan) stores = stores free under.free_are can_store_two m.sized
        by (Err fault) stores = full_or fault (stores free under.free_are can_store_two m.sized)

    module _ (new : PageMap) (fan : Fan) (is : IsStored old new size olds free merged fan) where
      abbrev numbers : List ℕ
      numbers = is.fronts ++ fan.last ∷ []

      whole_new : AreWhole size new
      whole_new = (is.stored.moves).whole size whole_old

      belows_seen : AreSeen old new belows
      belows_seen = others_seen old new olds free numbers (is.stored).now_free belows (is.stored).moves (λ n some. (let one = apart_two n in let two = split_two n in omega (arith, one, two, some)))

      tops : Pairwise (IsTop new size depth 0) (images merged) (all_of m.kids m.last)
      tops = tops_seen old new (is.stored.moves).longer size whole_old whole_new depth 0 belows belows_seen (images merged) m.kids m.last
          (λ n. (let e = m.below_are n in let c = occurs_append n (below_of depth p.left) (below_of depth p.right) in omega (arith, e, c))) m.tops

      planted : ArePlanted new size depth o.from o.to (each_of (rows_of depth) nothing m.kids m.last) (each_of (below_of depth) nothing m.kids m.last) is.fronts fan.last (divider_bytes merged)
      planted = plant new size depth is.fronts fan.last (images merged) m.kids m.last (divider_bytes merged) o.from o.to (is.stored).on tops m.divide m.sorted

      abbrev filled : Row
      filled = (planted.kids, planted.last)

      moves_two : Moves old new (pages_in depth window.0 window.1) free (pages_in depth planted.kids planted.last) (is.stored).now_free
      moves_two = beside_used old new olds free numbers (is.stored).now_free belows (pages_in depth window.0 window.1) (pages_in depth planted.kids planted.last) (is.stored).moves
          (λ n. (let two = split_two n in let e = occurs_append n (pages_of depth p.left) (pages_of depth p.right) in omega (arith, two, e)))
          (λ n. (let pages = planted.pages_are n in let e = m.below_are n in let c = occurs_append n (below_of depth p.left) (below_of depth p.right) in omega (arith, pages, e, c)))

      abbrev side : Row
      side = framed p.frame filled

      abbrev others : List ℕ
      others = left_of (pages_of depth) nothing p.frame ++ right_of (pages_of depth) nothing p.frame

      framed_pages : (w : Row) → IsJoined (pages_in depth w.0 w.1) others (pages_in depth (framed p.frame w).0 (framed p.frame w).1)
      framed_pages w n =
          let a = left_of (pages_of depth) nothing p.frame in
          let b = right_of (pages_of depth) nothing p.frame in
          let mid = pages_in depth w.0 w.1 in
          let e = ap (occurs n) (frame_gives (pages_of depth) nothing p.frame w) in
          let one = occurs_append n a (mid ++ b) in
          let two = occurs_append n mid b in
          let ends_both = occurs_append n a b in
          omega (arith, e, one, two, ends_both)

      window_pages : IsJoined (pages_in depth window.0 window.1) others (pages_in depth t.kids t.last)
      window_pages n = (let e = ap (λ (s : Row). occurs n (pages_in depth s.0 s.1)) p.whole in let j = framed_pages window n in omega (arith, e, j))

      side_moves : Moves old new (pages_in depth t.kids t.last) free (pages_in depth side.0 side.1) (is.stored).now_free
      side_moves = beside_used old new (pages_in depth window.0 window.1) free (pages_in depth planted.kids planted.last) (is.stored).now_free others (pages_in depth t.kids t.last) (pages_in depth side.0 side.1)
          moves_two window_pages (framed_pages filled)

      side_lies : Each (Lies new size depth) side.0 side.1
      side_lies = p.fill (Lies old size depth) (Lies new size depth) filled planted.lies
          (λ u some lies. lies_stays old new (is.stored.moves).longer size whole_old whole_new depth u
          (others_seen old new (pages_in depth window.0 window.1) free (pages_in depth planted.kids planted.last) (is.stored).now_free (pages_of depth u) moves_two
          (λ n so. (let all = under.apart n in let part = some n in let e = occurs_append n (pages_of depth p.left) (pages_of depth p.right) in omega (arith, all, part, so, e)))) lies) (under.lies).1

      page_says : Says new number (Keys (children (top depth) t.kids) (top depth t.last))
      page_says = (let says = (under.lies).0 in subst (λ (n : ℕ). Says new n (Keys (children (top depth) t.kids) (top depth t.last))) under.top_is
          (says_stays old new (is.stored.moves).longer size whole_old whole_new t.page (Keys (children (top depth) t.kids) (top depth t.last))
          (moves_two.keeps t.page says.has.first says.has.last
          (let all = under.apart t.page in let two = p.two t.page in let self = occurs_self t.page in
          let e = occurs_append t.page (pages_of depth p.left) (pages_of depth p.right) in let f = occurs_append t.page (t.page ∷ []) (pages_in depth t.kids t.last) in omega (arith, all, two, self, e, f))) says))

      pub page_there : IsThere new size number
      page_there = record { has = page_says.has; whole = whole_new number page_says.has }

      rows_stay : each_of (rows_of depth) nothing side.0 side.1 ≡ rows_of (suc depth) t
      rows_stay =
          frame_gives (rows_of depth) nothing p.frame filled
          ∙ ap (λ (rows : List Entry). left_of (rows_of depth) nothing p.frame ++ (rows ++ right_of (rows_of depth) nothing p.frame)) (planted.rows_are ∙ m.rows_are)
          ∙ sym (frame_gives (rows_of depth) nothing p.frame window) ∙ ap (λ (s : Row). each_of (rows_of depth) nothing s.0 s.1) p.whole

      few : total (map cell_room (cells_of fan)) ≤ 120
      few =
          let small = few_cells is.fronts (divider_bytes merged) (keys_of m.kids) m.divide in
          let len : length (divider_bytes merged) ≡ length merged.pieces.items = length-map merged.pieces.items (λ (piece : Piece). piece.divider.items) in
          let pieces = m.few in
          subst (λ (cells : List (List ℕ)). total (map cell_room cells) ≤ 120) (sym is.cells_are) (omega (arith, small, len, pieces))

      -- the page above has the fan in their place
      pub joined_or : (page : List ℕ) (start : ℕ) (result : Result Packed Fault) → page ≡ page_at new number → start ≡ start_of number → FansTwo page start found.place fan result
          → MatchResult result (IsPlanned old new size number (suc depth) low high (rows_of (suc depth) t) (below_of (suc depth) t) free) (λ fault. fault ≡ Memory)
      joined_or page start result page_is start_is fans = by result
          ((subst (λ (n : ℕ). FansTwo (page_at new number) n found.place fan result) start_is (subst (λ (bytes : List ℕ). FansTwo bytes start found.place fan result) page_is fans))
          (children (top depth) t.kids) (children (top depth) planted.kids) (top depth t.last) page_says.node_is (usual size number (page_at new number) (large_size size under.sized) (page_there.whole))
          at.within planted.near (subst (λ (cells : List (List ℕ)). Pairwise IsKeyCell cells (children (top depth) planted.kids)) (sym is.cells_are) planted.cells_are))
        where
          by : (result : Result Packed Fault) → MatchResult result (IsFanned (page_at new number) (start_of number) (fanned found.place (children (top depth) planted.kids) fan.last (without_at found.place (children (top depth) t.kids)) (top depth t.last)) fan) (λ fault. fault ≡ Memory)
              → MatchResult result (IsPlanned old new size number (suc depth) low high (rows_of (suc depth) t) (below_of (suc depth) t) free) (λ fault. fault ≡ Memory)
          by (Err fault) memory = memory
          by (Ok packed) fanned_is =
              plan_side old new size number depth low high under.sized (below_of (suc depth) t) free (rows_of (suc depth) t) side side_lies (o.opening.fill filled planted.sorted) rows_stay
              (is.stored).now_free (is.stored).has side_moves (is.stored).header (page_there.whole) fan few
              (fanned found.place (children (top depth) planted.kids) fan.last (without_at found.place (children (top depth) t.kids)) (top depth t.last))
              (ap (λ (n : ℕ). fanned found.place (children (top depth) planted.kids) n (without_at found.place (children (top depth) t.kids)) (top depth t.last)) (sym planted.last_is) ∙ sym (p.fan filled))
              packed fanned_is

pub joined_since : (old mid new : PageMap) (size number depth : ℕ) (low : ℤ) (t : Tree depth) (high : ℤ) (free : List ℕ) (packed : Packed) → new ≡ mid
    → IsPlanned old mid size number depth low high (rows_of depth t) (below_of depth t) free packed → IsPlanned old new size number depth low high (rows_of depth t) (below_of depth t) free packed
joined_since old mid new size number depth low t high free packed same is =
    subst (λ (m : PageMap). IsPlanned old m size number depth low high (rows_of depth t) (below_of depth t) free packed) (sym same) is
