-- A tree under a root that has one more row.
use Rattle.std.proofs.Common.{◌≡◌, ◌≤◌, ◌<◌, ◌+◌, ◌-◌, ℕ, zero, suc, ℤ, pos, ◌<ℤ◌, ◌≤ℤ◌, ◌⊎◌, List, [], ◌∷◌, ◌++◌, length, map, refl, sym, ap, subst, ◌∙◌, inl, inr, arith}
use Rattle.std.specs.Prelude.{◌-ℤ◌}
use Rattle.std.proofs.lemmas.Grind.{common_steps}
use Rattle.std.proofs.lemmas.Int.{ints}
use Rattle.std.proofs.lemmas.List.{length-map, get_or-set_same}
use Rattle.std.specs.List.{AllByRecursion}
use Rattle.tree_leaf.specs.Leaf.{Entry}
use Rattle.pages.specs.Counting.{occurs, start_of, Moves}
use Rattle.pages.specs.Map.{PageMap, page_at, Has}
use Rattle.pages.proofs.Moving.{in_sequence, occurs_append, not_fresh}
use Rattle.freelist.specs.Calls.{AreFree, HasFree, KeepsHeader}
use Rattle.freelist.proofs.Taken.{one_there}
use Rattle.tree_overflow.proofs.Laying.{keeps_then}
use Rattle.tree_page.specs.Cells.{Pairwise}
use Rattle.tree_page.specs.Node.{Keys, IsNode}
use Rattle.tree_page.specs.declared.items.Kind.TheVariants.{TableInterior}
use Rattle.tree_pack.specs.Packing.{images, divider_bytes}
use Rattle.tree_pack.specs.declared.spreading.Packed.{Packed}
use Rattle.tree_pack.specs.declared.spreading.Piece.{Piece}
use Rattle.tree_store.specs.Saying.{Says}
use Rattle.tree_store.specs.Sides.{children, each_of, nothing, Parted}
use Rattle.tree_store.specs.Storing.{CanRoot, IsRewritten, IsLifted, IsRooted, cells_over}
use Rattle.tree_table.specs.Calls.{Stands, BecomesRows}
use Rattle.tree_table.specs.Growing.{below_of, IsTop, all_of, start_in, IsPlanned, IsUnder, IsPut}
use Rattle.tree_table.specs.Tree.{Held, Tree, top, rows_of, pages_of, Rises, IsSorted, Lies}
use Rattle.tree_table.proofs.Few.{large_size}
use Rattle.tree_table.proofs.Growth.{parts, moves_top, planned_after, number_there, number_unfree, tops_stay, few_dividers}
use Rattle.tree_table.proofs.Holes.{Kids, keys_of, pages_in}
use Rattle.tree_table.proofs.Orders.{less_or_not, lt_le, le_lt, lt_le_lt, le_le}
use Rattle.tree_table.proofs.Passing.{tree_up, once_after, beside_used}
use Rattle.tree_table.proofs.Planting.{plant, moved_to, top_moved, rows_moved, pages_moved, sorted_moved, lies_moved, pages_split}

-- ---- wider bounds

rises_wider : (low less : ℤ) (rows : List Held) (high more : ℤ) → less ≤ℤ low → high ≤ℤ more → Rises low rows high → Rises less rows more
rises_wider low less [] high more le ge h = le_le less low more le (le_le low high more h ge)
rises_wider low less (held ∷ rows) high more le ge h = (le_lt less low held.row.rowid le h.0, rises_wider held.row.rowid held.row.rowid rows high more (omega (arith, ints)) ge h.1)

wider_kids : {T : Type 0} (P : ℤ → T → ℤ → Type 0) → ((low less : ℤ) (t : T) (high more : ℤ) → less ≤ℤ low → high ≤ℤ more → P low t high → P less t more)
    → (low less : ℤ) (kids : List (T × ℤ)) (last : T) (high more : ℤ) → less ≤ℤ low → high ≤ℤ more → Parted P low kids last high → Parted P less kids last more
wider_kids P go low less [] last high more le ge h = go low less last high more le ge h
wider_kids P go low less (kid ∷ kids) last high more le ge h =
    (go low less kid.0 kid.1 kid.1 le (omega (arith, ints)) h.0, wider_kids P go kid.1 kid.1 kids last high more (omega (arith, ints)) ge h.1)

-- a sorted tree is sorted within wider bounds
pub sorted_wider : (depth : ℕ) (low less : ℤ) (t : Tree depth) (high more : ℤ) → less ≤ℤ low → high ≤ℤ more → IsSorted depth low t high → IsSorted depth less t more
sorted_wider zero low less t high more le ge h = rises_wider low less t.rows high more le ge h
sorted_wider (suc depth) low less t high more le ge h = wider_kids (IsSorted depth) (sorted_wider depth) low less t.kids t.last high more le ge h

-- bounds that have a rowid within them too
pub record AreWider (low high rowid : ℤ) : Type 0 where
  pub less : ℤ
  pub more : ℤ
  pub le : less ≤ℤ low
  pub ge : high ≤ℤ more
  pub above : less <ℤ rowid
  pub upto : rowid ≤ℤ more

before_it : (rowid : ℤ) → (n : ℤ) × (n <ℤ rowid)
before_it rowid = (rowid -ℤ pos 1, omega (arith, ints))

pub wider : (low high rowid : ℤ) → AreWider low high rowid
wider low high rowid = elim (less_or_not low rowid) [
  | inl less ↦ elim (less_or_not high rowid) [
    | inl under ↦ record { less = low; more = rowid; le = omega (arith, ints); ge = lt_le high rowid under.1; above = less.1; upto = omega (arith, ints) }
    | inr over ↦ record { less = low; more = high; le = omega (arith, ints); ge = omega (arith, ints); above = less.1; upto = over.1 }
  ]
  | inr more ↦ (let b = before_it rowid in elim (less_or_not high rowid) [
    | inl under ↦ record { less = b.0; more = rowid; le = lt_le b.0 low (lt_le_lt b.0 rowid low b.1 more.1); ge = lt_le high rowid under.1; above = b.1; upto = omega (arith, ints) }
    | inr over ↦ record { less = b.0; more = high; le = lt_le b.0 low (lt_le_lt b.0 rowid low b.1 more.1); ge = omega (arith, ints); above = b.1; upto = over.1 }
  ])
]

-- the tree has these rows now, and is at most this deep
abbrev pub BecomesUpTo : PageMap → PageMap → ℕ → ℕ → ℕ → List Entry → List ℕ → List ℕ → Type 0
BecomesUpTo old new size root most rows used free = (now : BecomesRows old new size root rows used free) × (now.stands.tree.depth ≤ most)

-- ---- the root of a tree that stands

module _ (old : PageMap) (size root : ℕ) (rowid : ℤ) (rows : List Entry) (used free : List ℕ) (is : Stands old size root rows used free) where
  abbrev depth : ℕ
  depth = is.tree.depth

  abbrev tree : Tree depth
  tree = is.tree.tree

  pub bounds : AreWider is.tree.low is.tree.high rowid
  bounds = wider is.tree.low is.tree.high rowid

  root_first : (root ≡ 1) ⊎ (occurs 1 used ≡ 0) → occurs 1 (below_of depth tree) ≡ 0
  root_first (inl one) =
      let e = ap (occurs 1) (sym (pages_split depth tree) ∙ is.tree.used_are) in
      let f = ap (λ (n : ℕ). occurs 1 (n ∷ below_of depth tree)) (is.tree.root_is ∙ one) in
      let once = is.apart 1 in
      omega (arith, e, f, once)
  root_first (inr none) = (let e = ap (occurs 1) (sym (pages_split depth tree) ∙ is.tree.used_are) in omega (arith, e, none))

  -- any rowid has its place under the root
  pub root_under : IsUnder old size root 19 rowid depth bounds.less tree bounds.more free
  root_under = record {
    top_is = is.tree.root_is;
    lies = is.tree.lies;
    sorted = sorted_wider depth is.tree.low bounds.less tree is.tree.high bounds.more bounds.le bounds.ge is.tree.sorted;
    above = bounds.above;
    upto = bounds.upto;
    shallow = (let lt = is.tree.shallow in omega (arith, lt));
    apart = λ n. (let once = is.apart n in let e = ap (occurs n) is.tree.used_are in omega (arith, once, e));
    first = root_first is.first;
    free_are = is.free_are;
    sized = is.sized;
  }

  -- What is free beside a tree that took the place of the old one.
  pub record IsBesideFree (new : PageMap) (deep : ℕ) (t : Tree deep) (now_free : List ℕ) : Type 0 where
    pub free_are : AreFree new size now_free
    pub apart : (n : ℕ) → occurs n (pages_of deep t) + occurs n now_free ≤ 1
    pub first : (root ≡ 1) ⊎ (occurs 1 (pages_of deep t) ≡ 0)
    pub below : occurs 1 (below_of deep t) ≡ 0

  pub beside_free : (new : PageMap) (deep : ℕ) (t : Tree deep) (now_free : List ℕ) → top deep t ≡ root → HasFree new size now_free → Moves old new (pages_of depth tree) free (pages_of deep t) now_free → IsBesideFree new deep t now_free
  beside_free new deep t now_free at has moves =
      let apart = once_after old new size (pages_of depth tree) free (pages_of deep t) now_free is.free_are moves (tree_up old size depth tree is.tree.lies) root_under.apart in
      let counts = moves.counts 1 in
      let old_page = not_fresh (length old) (length new) 1 (((one_there old size free is.free_are).has).last) in
      let behind = (is.free_are).behind in
      let was = ap (occurs 1) is.tree.used_are in
      let split = ap (occurs 1) (pages_split deep t) in
      let both = apart 1 in
      let at_root = ap (λ (n : ℕ). occurs 1 (n ∷ below_of deep t)) at in
      record {
        free_are = record {
          has = has;
          once = record { once = λ n. (let both = apart n in omega (arith, both)) };
          behind = elim is.first [
            | inl one ↦ (let f = ap (λ (n : ℕ). occurs 1 (n ∷ below_of deep t)) (at ∙ one) in omega (arith, both, split, f))
            | inr none ↦ omega (arith, counts, old_page, behind, was, none)
          ];
          whole = moves.whole size (is.free_are).whole;
        };
        apart = apart;
        first = elim is.first [
          | inl one ↦ inl one
          | inr none ↦ inr (omega (arith, counts, old_page, behind, was, none))
        ];
        below = elim is.first [
          | inl one ↦ (let f = ap (λ (n : ℕ). occurs 1 (n ∷ below_of deep t)) (at ∙ one) in omega (arith, both, split, f))
          | inr none ↦ omega (arith, counts, old_page, behind, was, none, split)
        ];
      }

  -- a tree that took the place of the old one stands
  pub becomes_up : (most : ℕ) (new : PageMap) (deep : ℕ) (t : Tree deep) (low high : ℤ) (all : List Entry) (now_free : List ℕ) → deep < 20 → deep ≤ most → top deep t ≡ root → Lies new size deep t → IsSorted deep low t high → rows_of deep t ≡ all
      → HasFree new size now_free → Moves old new (pages_of depth tree) free (pages_of deep t) now_free → KeepsHeader old new → BecomesUpTo old new size root most all used free
  becomes_up most new deep t low high all now_free shallow near at lies sorted holds has moves header =
      let beside = beside_free new deep t now_free at has moves in (
        record {
          now_used = pages_of deep t;
          now_free = now_free;
          stands = record {
            tree = record {
              depth = deep;
              tree = t;
              low = low;
              high = high;
              shallow = shallow;
              root_is = at;
              lies = lies;
              sorted = sorted;
              rows_are = holds;
              used_are = refl;
              once = record { once = λ n. (let both = beside.apart n in omega (arith, both)) };
            };
            free_are = beside.free_are;
            apart = beside.apart;
            first = beside.first;
            sized = is.sized;
          };
          moves = subst (λ (pages : List ℕ). Moves old new pages free (pages_of deep t) now_free) is.tree.used_are moves;
          header = header;
        },
        near,
      )

  pub put_up : (most : ℕ) (new : PageMap) (deep : ℕ) (low high : ℤ) (all : List Entry) → deep < 20 → deep ≤ most → IsPut old new size root deep low high all (pages_of depth tree) free → BecomesUpTo old new size root most all used free
  put_up most new deep low high all shallow near p = becomes_up most new deep p.tree low high all p.now_free shallow near p.top_is p.lies p.sorted p.rows_are p.has p.moves p.header

  pub put_becomes : (new : PageMap) (all : List Entry) → IsPut old new size root depth bounds.less bounds.more all (pages_of depth tree) free → BecomesRows old new size root all used free
  put_becomes new all p = (put_up depth new depth bounds.less bounds.more all is.tree.shallow (omega arith) p).0

  -- ---- packed pages in place of the root's

  module _ (low high : ℤ) (under : IsUnder old size root 19 rowid depth low tree high free) (mid : PageMap) (all : List Entry) (packed : Packed) (plan : IsPlanned old mid size root depth low high all (below_of depth tree) free packed) where
    abbrev at_parts : List ℕ
    at_parts = parts old mid size root 19 rowid depth low tree high free under all packed plan

    pub root_free : AreFree mid size plan.now_free
    root_free = (planned_after old mid size root 19 rowid depth low tree high free under all packed plan).are

    pub root_there : Has mid root
    root_there = number_there old mid size root 19 rowid depth low tree high free under all packed plan

    pub root_unfree : occurs root plan.now_free ≡ 0
    root_unfree = number_unfree old mid size root 19 rowid depth low tree high free under all packed plan

    last_sized : (pages : List (List ℕ)) (page : List ℕ) → AllByRecursion (λ image. length image ≡ size) (pages ++ page ∷ []) → length page ≡ size
    last_sized [] page h = h.0
    last_sized (other ∷ pages) page h = last_sized pages page h.1

    start_le : (n : ℕ) → start_of n ≤ 100
    start_le n = grind (arith, common_steps)

    pub can_root : CanRoot mid size root packed
    can_root =
        let sizes = large_size size is.sized in
        record {
          sized = plan.sized;
          front = λ none. record { sized = last_sized (map (λ (piece : Piece). piece.page.items) packed.pieces.items) packed.last.items plan.sized; front = plan.front none };
          addressed = sizes.1;
          room = (let near = start_le root in let small = few_dividers (divider_bytes packed) (keys_of plan.kids) plan.divide in
              let len = length-map packed.pieces.items (λ (piece : Piece). piece.divider.items) in let few = plan.few in let big = sizes.0 in omega (arith, near, small, len, few, big));
        }

    tops_now : (new : PageMap) (now_used now_free : List ℕ) → Moves mid new (root ∷ []) plan.now_free now_used now_free
        → Pairwise (IsTop new size depth (start_in root packed.pieces.items)) (images packed) (all_of plan.kids plan.last)
    tops_now new now_used now_free moves =
        tops_stay old mid size root 19 rowid depth low tree high free under all packed plan new now_used now_free moves (start_in root packed.pieces.items)
        (images packed) plan.kids plan.last (λ n. omega arith) plan.tops

    moves_now : (new : PageMap) (now_used now_free pages : List ℕ) → Moves mid new (root ∷ []) plan.now_free now_used now_free
        → ((n : ℕ) → occurs n pages ≡ occurs n now_used + occurs n at_parts) → Moves old new (pages_of depth tree) free pages now_free
    moves_now new now_used now_free pages moves counts =
        let first = moves_top old mid size root 19 rowid depth low tree high free under all packed plan in
        let second = beside_used mid new (root ∷ []) plan.now_free now_used now_free at_parts (root ∷ at_parts) pages moves (λ n. occurs_append n (root ∷ []) at_parts) counts in
        subst (λ (was : List ℕ). Moves old new was free pages now_free) (ap (λ (n : ℕ). n ∷ below_of depth tree) (sym is.tree.root_is) ∙ sym (pages_split depth tree))
        (in_sequence old mid new (root ∷ below_of depth tree) free (root ∷ at_parts) plan.now_free pages now_free first second)

    -- one page took the place of the root's
    one_top : (new : PageMap) (start : ℕ) (pieces : List Piece) (kids : Kids depth) → pieces ≡ [] → start_in root pieces ≡ start
        → Pairwise (IsTop new size depth (start_in root pieces)) (map (λ (piece : Piece). piece.page.items) pieces ++ packed.last.items ∷ []) (all_of kids plan.last)
        → (kids ≡ []) × IsTop new size depth (start_of root) packed.last.items plan.last
    one_top new start [] [] none at tops = (refl, tops.0)
    one_top new start [] (kid ∷ []) none at tops = absurd tops.1
    one_top new start [] (kid ∷ other ∷ kids) none at tops = absurd tops.1
    one_top new start (piece ∷ pieces) kids none at tops = absurd (no_cons none)
      where
        no_cons : {x : Piece} {xs : List Piece} → x ∷ xs ≡ [] → ⊥
        no_cons e = cc

    pub rewritten_up : (new : PageMap) → packed.pieces.items ≡ [] → IsRewritten mid new size plan.now_free root packed.last.items → BecomesUpTo old new size root depth all used free
    rewritten_up new none r =
        let alone = one_top new (start_in root packed.pieces.items) packed.pieces.items plan.kids none refl (tops_now new (root ∷ []) plan.now_free r.moves) in
        let t = moved_to depth root plan.last in
        let there = root_there in
        let bytes : page_at new root ≡ packed.last.items = ap (λ (m : PageMap). page_at m root) r.is ∙ get_or-set_same mid (root - 1) packed.last.items [] (let a = there.first in let b = there.last in omega (arith, a, b)) in
        let says : Says new root (alone.1).node = record {
          has = record { first = there.first; last = (let b = there.last in let longer = (r.moves).longer in omega (arith, b, longer)) };
          node_is = subst (λ (page : List ℕ). IsNode page (start_of root) (alone.1).node) (sym bytes) (alone.1).says;
        } in
        becomes_up depth new depth t low high all plan.now_free is.tree.shallow (omega arith) (top_moved depth root plan.last) (lies_moved new size depth root plan.last (alone.1).node (alone.1).shows says)
        (sorted_moved depth root low plan.last high (subst (λ (ks : Kids depth). Parted (IsSorted depth) low ks plan.last high) alone.0 plan.sorted))
        (rows_moved depth root plan.last ∙ subst (λ (ks : Kids depth). each_of (rows_of depth) nothing ks plan.last ≡ all) alone.0 plan.rows_are)
        r.has
        (moves_now new (root ∷ []) plan.now_free (pages_of depth t) r.moves (λ n.
        (let e = ap (occurs n) (pages_moved depth root plan.last) in let s = occurs_append n (root ∷ []) (below_of depth plan.last) in
        let f = ap (λ (ks : Kids depth). occurs n (each_of (below_of depth) nothing ks plan.last)) alone.0 in omega (arith, e, s, f))))
        (keeps_then old mid new plan.header r.header)

    no_start : (pieces : List Piece) → (pieces ≡ [] → ⊥) → start_in root pieces ≡ 0
    no_start [] some = absurd (some refl)
    no_start (piece ∷ pieces) some = refl

    -- the root is a page above several
    pub lifted_put : (new : PageMap) → (packed.pieces.items ≡ [] → ⊥) → IsLifted mid new size root TableInterior plan.now_free packed → IsPut old new size root (suc depth) low high all (pages_of depth tree) free
    lifted_put new some l =
        let tops = subst (λ (start : ℕ). Pairwise (IsTop new size depth start) (images packed) (all_of plan.kids plan.last)) (no_start packed.pieces.items some)
        (tops_now new (root ∷ (l.fronts ++ l.last ∷ [])) l.now_free l.moves) in
        let planted = plant new size depth l.fronts l.last (images packed) plan.kids plan.last (divider_bytes packed) low high l.on tops plan.divide plan.sorted in
        let t : Tree (suc depth) = record { page = root; kids = planted.kids; last = planted.last } in
        let says : Says new root (Keys (children (top depth) planted.kids) (top depth planted.last)) = record {
          has = l.has_root;
          node_is = subst (λ (n : ℕ). IsNode (page_at new root) (start_of root) (Keys (children (top depth) planted.kids) n)) (sym planted.last_is)
              (record { cells = cells_over l.fronts (divider_bytes packed); page_is = l.root_is; say = (planted.cells_are, planted.near) });
        } in
        record {
          tree = t;
          top_is = refl;
          lies = (says, planted.lies);
          sorted = planted.sorted;
          rows_are = planted.rows_are ∙ plan.rows_are;
          now_free = l.now_free;
          has = l.has;
          moves = moves_now new (root ∷ (l.fronts ++ l.last ∷ [])) l.now_free (pages_of (suc depth) t) l.moves (λ n.
              (let pages = planted.pages_are n in let a = occurs_append n (root ∷ []) (pages_in depth planted.kids planted.last) in
              let b = occurs_append n (root ∷ []) (l.fronts ++ l.last ∷ []) in omega (arith, pages, a, b)));
          header = keeps_then old mid new plan.header l.header;
        }

    pub rooted_becomes : (new : PageMap) → ((packed.pieces.items ≡ [] → ⊥) → depth < 19) → IsRooted mid new size root TableInterior plan.now_free packed → BecomesRows old new size root all used free
    rooted_becomes new short (inl alone) = (rewritten_up new alone.0 alone.1).0
    rooted_becomes new short (inr lifted) = (put_up (suc depth) new (suc depth) low high all (let lt = short lifted.0 in omega (arith, lt)) (omega arith) (lifted_put new lifted.0 lifted.1)).0
