-- Two trees side by side, whose top pages are packed together with an entry between them or none.
use Rattle.std.proofs.Common.{◌≡◌, ◌<◌, ◌+◌, ◌-◌, ◌*◌, ℕ, zero, suc, false, List, [], ◌∷◌, ◌++◌, length, map, refl, sym, ap, subst, ◌∙◌, arith}
use Rattle.std.proofs.lemmas.List.{map-append}
use Rattle.std.proofs.lemmas.List.Concat.{flat_map-append}
use Rattle.std.specs.Int.{w32, to_be_bytes}
use Rattle.std.specs.Prelude.{Result, Ok, Err, MatchResult}
use Rattle.sqlval.specs.Faults.{IsOutside}
use Rattle.sqlval.specs.declared.fault.Fault.{Fault}
use Rattle.pages.specs.Counting.{occurs}
use Rattle.pages.specs.Map.{PageMap, page_at, IsThere}
use Rattle.pages.proofs.Moving.{occurs_append}
use Rattle.tree_page.specs.Cells.{Pairwise}
use Rattle.tree_page.specs.Node.{Local, Node, Entries, Between, IsNode, IsEntryCell, IsBetweenCell}
use Rattle.tree_page.specs.declared.items.Kind.TheVariants.{IndexLeaf, IndexInterior}
use Rattle.tree_pack.specs.Building.{cell_room}
use Rattle.tree_pack.specs.Packing.{AreOf, Packs}
use Rattle.tree_pack.specs.Parts.{total}
use Rattle.tree_pack.specs.declared.spreading.Packed.{Packed}
use Rattle.tree_pack.proofs.SmallLemmas.{entry_len}
use Rattle.tree_pack.proofs.Splices.{pairwise_append}
use Rattle.tree_store.specs.Frames.{goes}
use Rattle.tree_store.specs.Saying.{Says}
use Rattle.tree_store.specs.Sides.{children}
use Rattle.tree_store.proofs.Windows.{frame_gives, each_join}
use Rattle.tree_index.specs.Entries.{Entry}
use Rattle.tree_index.specs.Freeing.{chains_of, below_of}
use Rattle.tree_index.specs.Growing.{IsDivider, IsPlanned, entries_in}
use Rattle.tree_index.specs.Joining.{AreBeside, Merges}
use Rattle.tree_index.specs.Tree.{Held, IsHeldAs, IsKidAs, Leaf, Tree, top, entries_of, pages_of, Lies}
use Rattle.tree_index.proofs.Cutting.{values}
use Rattle.tree_index.proofs.Emptied.{large_size}
use Rattle.tree_index.proofs.Fans.{between_third}
use Rattle.tree_store.proofs.PutPages.{fresh_same}
use Rattle.tree_index.proofs.Givings.{none_given}
use Rattle.tree_index.proofs.Growth.{chain, pages_in}
use Rattle.tree_index.proofs.Leaves.{usual, at_most}
use Rattle.tree_index.proofs.Pairs.{one}
use Rattle.tree_pack.proofs.Rooms.{cells_fit}
use Rattle.tree_index.proofs.Rows.{children_append}
use Rattle.tree_index.proofs.Shares.{start_after, after_first}
use Rattle.tree_index.proofs.Subtrees.{pages_split, top_there}
use Rattle.tree_index.proofs.Sums.{room_append}
use Rattle.tree_index.proofs.Tops.{AreTops, leaf_tops, branch_few, branch_tops, planned_by}

-- where no page has changed
pub planned_still : (m : PageMap) (size depth : ℕ) (entries : List Entry) (below used free : List ℕ) (packed : Packed) → (left right : ℕ) (a b : Tree depth) → AreBeside m size left right depth a b free
    → ((n : ℕ) → occurs n below ≡ occurs n used) → AreTops m size depth entries below packed → IsPlanned m m size depth entries used free packed
planned_still m size depth entries below used free packed left right a b is same tops =
    let none = none_given m size free is.free_are in
    planned_by m m size depth entries below used free packed tops free (is.free_are).has (record {
      longer = omega arith;
      counts = λ n. (let at = fresh_same (length m) (length m) n refl in let e = same n in omega (arith, at, e));
      keeps = λ n from to nothing. refl;
      whole = λ size whole. whole;
    }) none.header

module _ (m : PageMap) (size left right depth : ℕ) (a b : Tree depth) (free : List ℕ) (is : AreBeside m size left right depth a b free) where
  pub far_left : 1 < left
  far_left = subst (λ (n : ℕ). 1 < n) is.left_is (after_first m (top depth a) (below_of depth a) (top_there m size depth a is.lies_left)
      (let none = is.first in let e = ap (occurs 1) (pages_split depth a) in omega (arith, none, e)))

  pub far_right : 1 < right
  far_right = subst (λ (n : ℕ). 1 < n) is.right_is (after_first m (top depth b) (below_of depth b) (top_there m size depth b is.lies_right)
      (let none = is.first in let e = ap (occurs 1) (pages_split depth b) in omega (arith, none, e)))

  pub left_there : IsThere m size left
  left_there = subst (λ (n : ℕ). IsThere m size n) is.left_is (let has = top_there m size depth a is.lies_left in record { has = has; whole = (is.free_are).whole (top depth a) has })

  pub right_there : IsThere m size right
  right_there = subst (λ (n : ℕ). IsThere m size n) is.right_is (let has = top_there m size depth b is.lies_right in record { has = has; whole = (is.free_are).whole (top depth b) has })

pub at_start : (m : PageMap) (n : ℕ) (node : Node) → 1 < n → Says m n node → IsNode (page_at m n) 0 node
at_start m n node far says = subst (λ (start : ℕ). IsNode (page_at m n) start node) (start_after n far) says.node_is

-- ---- leaves

module _ (m : PageMap) (size left right : ℕ) (a b : Leaf) (free : List ℕ) (is : AreBeside m size left right zero a b free) (mids : List Held) (mid_said : List Local) (mid_cells : List (List ℕ))
    (hold_mid : Pairwise (IsHeldAs m size) mid_said mids) (say_mid : Pairwise (IsEntryCell size) mid_cells mid_said) (small : 3 * total (map cell_room mid_cells) + 36 < size)
    (used : List ℕ) (used_are : (n : ℕ) → occurs n used ≡ occurs n (chains_of a.entries) + occurs n (chains_of mids) + occurs n (chains_of b.entries)) where
  left_node : IsNode (page_at m left) 0 (Entries is.lies_left.said)
  left_node = at_start m left (Entries is.lies_left.said) (far_left m size left right zero a b free is) (subst (λ (n : ℕ). Says m n (Entries is.lies_left.said)) is.left_is is.lies_left.says)

  right_node : IsNode (page_at m right) 0 (Entries is.lies_right.said)
  right_node = at_start m right (Entries is.lies_right.said) (far_right m size left right zero a b free is) (subst (λ (n : ℕ). Says m n (Entries is.lies_right.said)) is.right_is is.lies_right.says)

  long_left : length (page_at m left) ≡ size
  long_left = (left_there m size left right zero a b free is).whole

  long_right : length (page_at m right) ≡ size
  long_right = (right_there m size left right zero a b free is).whole

  abbrev said : List Local
  said = is.lies_left.said ++ (mid_said ++ is.lies_right.said)

  abbrev held : List Held
  held = a.entries ++ (mids ++ b.entries)

  abbrev cells : List (List ℕ)
  cells = left_node.cells ++ (mid_cells ++ right_node.cells)

  hold : Pairwise (IsHeldAs m size) said held
  hold = pairwise_append (IsHeldAs m size) is.lies_left.said (mid_said ++ is.lies_right.said) a.entries (mids ++ b.entries) is.lies_left.entries
      (pairwise_append (IsHeldAs m size) mid_said is.lies_right.said mids b.entries hold_mid is.lies_right.entries)

  say : Pairwise (IsEntryCell (length (page_at m left))) cells said
  say = pairwise_append (IsEntryCell (length (page_at m left))) left_node.cells (mid_cells ++ right_node.cells) is.lies_left.said (mid_said ++ is.lies_right.said) left_node.say
      (pairwise_append (IsEntryCell (length (page_at m left))) mid_cells right_node.cells mid_said is.lies_right.said
      (subst (λ (n : ℕ). Pairwise (IsEntryCell n) mid_cells mid_said) (sym long_left) say_mid)
      (subst (λ (n : ℕ). Pairwise (IsEntryCell n) right_node.cells is.lies_right.said) (long_right ∙ sym long_left) right_node.say))

  are : AreOf IndexLeaf (length (page_at m left)) [] cells (Entries said)
  are = record { kind_is = refl; right_is = refl; say = say }

  all_values : values held ≡ values a.entries ++ (values mids ++ values b.entries)
  all_values = map-append (λ (h : Held). h.entry) a.entries (mids ++ b.entries) ∙ ap (λ (es : List Entry). values a.entries ++ es) (map-append (λ (h : Held). h.entry) mids b.entries)

  all_chains : (n : ℕ) → occurs n (chains_of held) ≡ occurs n used
  all_chains n =
      let e = ap (occurs n) (flat_map-append (λ (h : Held). h.pages) a.entries (mids ++ b.entries)) in
      let f = ap (occurs n) (flat_map-append (λ (h : Held). h.pages) mids b.entries) in
      let c = occurs_append n (chains_of a.entries) (chains_of (mids ++ b.entries)) in
      let d = occurs_append n (chains_of mids) (chains_of b.entries) in
      let u = used_are n in
      omega (arith, e, f, c, d, u)

  planned : (packed : Packed) → Packs IndexLeaf (length (page_at m left)) [] false cells (Entries said) packed → IsPlanned m m size zero (values a.entries ++ (values mids ++ values b.entries)) used free packed
  planned packed packs =
      let sizes = large_size size is.sized in
      let its = subst (λ (n : ℕ). Packs IndexLeaf n [] false cells (Entries said) packed) long_left packs in
      let one_fits = cells_fit 10 (page_at m left) 0 [] left_node.cells left_node.page_is in
      let two_fits = cells_fit 10 (page_at m right) 0 [] right_node.cells right_node.page_is in
      let sum = room_append cell_room left_node.cells (mid_cells ++ right_node.cells) in
      let more = room_append cell_room mid_cells right_node.cells in
      let few = at_most 2 (size - 0 - 8 - 0) false (map cell_room cells) its.counts its.cut (let big = sizes.0 in let l = long_left in let r = long_right in omega (arith, one_fits, two_fits, sum, more, small, big, l, r)) in
      subst (λ (es : List Entry). IsPlanned m m size zero es used free packed) all_values
      (planned_still m size zero (values held) (chains_of held) used free packed left right a b is all_chains (leaf_tops m size false cells said held packed its hold few))

  pub merged_leaves : (result : Result Packed Fault) → Merges (page_at m left) mid_cells (page_at m right) result
      → MatchResult result (IsPlanned m m size zero (values a.entries ++ (values mids ++ values b.entries)) used free) IsOutside
  merged_leaves result merges =
      by result (merges IndexLeaf (Entries is.lies_left.said) (Entries is.lies_right.said) (Entries said) left_node right_node (usual (page_at m left) size (large_size size is.sized) long_left)
      (long_right ∙ sym long_left) refl refl are)
    where
      by : (result : Result Packed Fault) → MatchResult result (Packs IndexLeaf (length (page_at m left)) [] false cells (Entries said)) IsOutside
          → MatchResult result (IsPlanned m m size zero (values a.entries ++ (values mids ++ values b.entries)) used free) IsOutside
      by (Ok packed) packs = planned packed packs
      by (Err fault) outside = outside

-- two leaves
pub unites_leaves : (m : PageMap) (size left right : ℕ) (a b : Leaf) (free : List ℕ) → AreBeside m size left right zero a b free → (result : Result Packed Fault) → Merges (page_at m left) [] (page_at m right) result
    → MatchResult result (IsPlanned m m size zero (entries_of zero a ++ entries_of zero b) (below_of zero a ++ below_of zero b) free) IsOutside
unites_leaves m size left right a b free is result merges =
    merged_leaves m size left right a b free is [] [] [] tt tt (let big = (large_size size is.sized).0 in omega (arith, big)) (below_of zero a ++ below_of zero b)
    (λ n. (let e = occurs_append n (chains_of a.entries) (chains_of b.entries) in omega (arith, e))) result merges

-- and an entry between them
pub binds_leaves : (m : PageMap) (size left right : ℕ) (a b : Leaf) (free : List ℕ) → AreBeside m size left right zero a b free → (cell : List ℕ) (held : Held) → IsDivider m size cell held
    → (result : Result Packed Fault) → Merges (page_at m left) (cell ∷ []) (page_at m right) result
    → MatchResult result (IsPlanned m m size zero (entries_of zero a ++ held.entry ∷ entries_of zero b) (below_of zero a ++ (held.pages ++ below_of zero b)) free) IsOutside
binds_leaves m size left right a b free is cell held d result merges =
    merged_leaves m size left right a b free is (held ∷ []) (d.said ∷ []) (cell ∷ []) (d.is, tt) (d.cell, tt)
    (let big = (large_size size is.sized).0 in let len = entry_len size cell d.said big d.cell in omega (arith, big, len)) (below_of zero a ++ (held.pages ++ below_of zero b))
    (λ n. (let e = occurs_append n (chains_of a.entries) (held.pages ++ chains_of b.entries) in let f = occurs_append n held.pages (chains_of b.entries) in let h = occurs_append n held.pages [] in omega (arith, e, f, h))) result merges

-- ---- interior pages, with an entry between them

module _ (m : PageMap) (size left right depth : ℕ) (a b : Tree (suc depth)) (free : List ℕ) (is : AreBeside m size left right (suc depth) a b free) where
  abbrev pub said_left : List (ℕ × Local)
  said_left = (is.lies_left.0).said

  abbrev pub said_right : List (ℕ × Local)
  said_right = (is.lies_right.0).said

  pub left_says : Says m left (Between said_left (top depth a.last))
  left_says = subst (λ (n : ℕ). Says m n (Between said_left (top depth a.last))) is.left_is (is.lies_left.0).says

  pub right_says : Says m right (Between said_right (top depth b.last))
  right_says = subst (λ (n : ℕ). Says m n (Between said_right (top depth b.last))) is.right_is (is.lies_right.0).says

  module _ (entry : List ℕ) (held : Held) (d : IsDivider m size entry held) (cell : List ℕ) (cell_is : cell ≡ to_be_bytes w32 (top depth a.last) ++ entry) where
    inner_left : IsNode (page_at m left) 0 (Between said_left (top depth a.last))
    inner_left = at_start m left (Between said_left (top depth a.last)) (far_left m size left right (suc depth) a b free is) left_says

    inner_right : IsNode (page_at m right) 0 (Between said_right (top depth b.last))
    inner_right = at_start m right (Between said_right (top depth b.last)) (far_right m size left right (suc depth) a b free is) right_says

    page_left : length (page_at m left) ≡ size
    page_left = (left_there m size left right (suc depth) a b free is).whole

    page_right : length (page_at m right) ≡ size
    page_right = (right_there m size left right (suc depth) a b free is).whole

    between_is : IsBetweenCell size cell (top depth a.last, d.said)
    between_is = record { rest = entry; parts = cell_is; near = inner_left.say.1; entry = d.cell }

    abbrev all_said : List (ℕ × Local)
    all_said = said_left ++ ((top depth a.last, d.said) ∷ said_right)

    abbrev all_kids : List (Tree depth × Held)
    all_kids = a.kids ++ ((a.last, held) ∷ b.kids)

    abbrev all_cells : List (List ℕ)
    all_cells = inner_left.cells ++ (cell ∷ inner_right.cells)

    all_hold : Pairwise (IsKidAs m size) all_said (children (top depth) all_kids)
    all_hold = subst (λ (cells : List (ℕ × Held)). Pairwise (IsKidAs m size) all_said cells) (sym (children_append (top depth) a.kids ((a.last, held) ∷ b.kids)))
        (pairwise_append (IsKidAs m size) said_left ((top depth a.last, d.said) ∷ said_right) (children (top depth) a.kids) ((top depth a.last, held) ∷ children (top depth) b.kids)
        (is.lies_left.0).children ((refl, d.is), (is.lies_right.0).children))

    all_say : Pairwise (IsBetweenCell (length (page_at m left))) all_cells all_said
    all_say = pairwise_append (IsBetweenCell (length (page_at m left))) inner_left.cells (cell ∷ inner_right.cells) said_left ((top depth a.last, d.said) ∷ said_right) inner_left.say.0 (
      subst (λ (n : ℕ). IsBetweenCell n cell (top depth a.last, d.said)) (sym page_left) between_is,
      subst (λ (n : ℕ). Pairwise (IsBetweenCell n) inner_right.cells said_right) (page_right ∙ sym page_left) inner_right.say.0,
    )

    inner_are : AreOf IndexInterior (length (page_at m left)) (to_be_bytes w32 (top depth b.last)) all_cells (Between all_said (top depth b.last))
    inner_are = record { kind_is = refl; right_is = refl; say = (all_say, inner_right.say.1) }

    abbrev now_used : List ℕ
    now_used = below_of (suc depth) a ++ (held.pages ++ below_of (suc depth) b)

    abbrev now_entries : List Entry
    now_entries = entries_of (suc depth) a ++ held.entry ∷ entries_of (suc depth) b

    inner_planned : (packed : Packed) → Packs IndexInterior (length (page_at m left)) [] false all_cells (Between all_said (top depth b.last)) packed → IsPlanned m m size (suc depth) now_entries now_used free packed
    inner_planned packed packs =
        let sizes = large_size size is.sized in
        let its = subst (λ (n : ℕ). Packs IndexInterior n [] false all_cells (Between all_said (top depth b.last)) packed) page_left packs in
        let lies = each_join (Lies m size depth) a.kids a.last held b.kids b.last is.lies_left.1 is.lies_right.1 in
        let one_fits = cells_fit 2 (page_at m left) 0 (to_be_bytes w32 (top depth a.last)) inner_left.cells inner_left.page_is in
        let two_fits = cells_fit 2 (page_at m right) 0 (to_be_bytes w32 (top depth b.last)) inner_right.cells inner_right.page_is in
        let child : length (to_be_bytes w32 (top depth a.last)) ≡ 4 = refl in
        let other : length (to_be_bytes w32 (top depth b.last)) ≡ 4 = refl in
        let sum = room_append cell_room inner_left.cells (cell ∷ inner_right.cells) in
        let third = between_third size cell (top depth a.last, d.said) sizes.0 between_is in
        let few = at_most 2 (size - 0 - 8 - 4) false (map cell_room all_cells) its.counts its.cut
        (let big = sizes.0 in let l = page_left in let r = page_right in omega (arith, one_fits, two_fits, child, other, sum, third, big, l, r)) in
        let made = branch_few size false all_cells all_said (top depth b.last) packed its in
        let tops = branch_tops m size depth false all_cells all_said (top depth b.last) all_kids b.last packed its all_hold refl lies (omega (arith, made, few)) in
        subst (λ (es : List Entry). IsPlanned m m size (suc depth) es now_used free packed) (frame_gives (entries_of depth) one (goes [] held (b.kids, b.last)) (a.kids, a.last))
        (planned_still m size (suc depth) (entries_in depth all_kids b.last) (pages_in depth all_kids b.last) now_used free packed left right a b is
        (λ n. ap (occurs n) (frame_gives (pages_of depth) chain (goes [] held (b.kids, b.last)) (a.kids, a.last))) tops)

    pub binds_inner : (result : Result Packed Fault) → Merges (page_at m left) (cell ∷ []) (page_at m right) result → MatchResult result (IsPlanned m m size (suc depth) now_entries now_used free) IsOutside
    binds_inner result merges =
        by result (merges IndexInterior (Between said_left (top depth a.last)) (Between said_right (top depth b.last)) (Between all_said (top depth b.last)) inner_left inner_right
        (usual (page_at m left) size (large_size size is.sized) page_left) (page_right ∙ sym page_left) refl refl inner_are)
      where
        by : (result : Result Packed Fault) → MatchResult result (Packs IndexInterior (length (page_at m left)) [] false all_cells (Between all_said (top depth b.last))) IsOutside
            → MatchResult result (IsPlanned m m size (suc depth) now_entries now_used free) IsOutside
        by (Ok packed) packs = inner_planned packed packs
        by (Err fault) outside = outside
