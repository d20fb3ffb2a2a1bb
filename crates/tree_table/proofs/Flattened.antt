-- A tree that is built anew over its leaves.
use Rattle.std.proofs.Common.{◌≡◌, ◌≤◌, ◌+◌, ◌-◌, ◌*◌, ◌^◌, ◌∙◌, ap, refl, sym, subst, ℕ, zero, suc, ℤ, List, [], ◌∷◌, ◌++◌, length, inl, inr, arith}
use Rattle.std.proofs.lemmas.Bool.{cases_eq}
use Rattle.std.proofs.lemmas.Grind.{common_steps}
use Rattle.std.proofs.lemmas.List.{length-map}
use Rattle.std.proofs.Math.Nat.{pow-succ'}
use Rattle.std.specs.Int.{w32, to_be_bytes}
use Rattle.std.specs.Prelude.{⊤, Result, Ok, Err, MatchResult}
use Rattle.sqlval.specs.Faults.{IsOutside}
use Rattle.sqlval.specs.declared.fault.Fault.{Fault}
use Rattle.tree_leaf.specs.Leaf.{Entry}
use Rattle.pages.specs.Calls.{IsOutsideOrFull}
use Rattle.pages.specs.Counting.{occurs, start_of, Moves}
use Rattle.pages.specs.Map.{PageMap, page_at, Has}
use Rattle.pages.proofs.Moving.{in_sequence, occurs_append, not_fresh}
use Rattle.tree_overflow.proofs.Laying.{beside, keeps_then, same_keeps}
use Rattle.tree_page.specs.Cells.{Pairwise, IsTreePage}
use Rattle.tree_page.specs.Node.{Rows, Keys, IsNode, IsKeyCell}
use Rattle.tree_page.specs.declared.items.Kind.TheVariants.{TableInterior}
use Rattle.tree_pack.proofs.SmallLemmas.{say_some}
use Rattle.tree_pack.specs.Building.{Fits}
use Rattle.tree_store.specs.Saying.{Says}
use Rattle.tree_store.specs.Sides.{children}
use Rattle.tree_store.specs.Steps.{IsRaised, Raises}
use Rattle.tree_store.specs.Storing.{cells_of}
use Rattle.tree_store.specs.declared.storing.Fan.{Fan}
use Rattle.tree_store.proofs.PutPages.{fresh_same}
use Rattle.tree_table.specs.Flattening.{AreBeside, BecomeBeside, IsFanOf, FindsLeaves, IsBuilt, BuildsOver}
use Rattle.tree_table.specs.Freeing.{StandsUnder, FindsParts}
use Rattle.tree_table.specs.Growing.{below_of}
use Rattle.tree_table.specs.Tree.{Tree, top, rows_of, pages_of, IsSorted, Lies}
use Rattle.tree_table.specs.declared.freeing.Parts.{Parts}
use Rattle.tree_table.specs.declared.freeing.Parts.TheVariants.{Cells, Children}
use Rattle.tree_table.proofs.Clearing.{IsTold, not_children}
use Rattle.tree_table.proofs.Few.{large_size}
use Rattle.tree_table.proofs.Gatherings.{cells_room}
use Rattle.tree_table.proofs.Holes.{each_stays}
use Rattle.tree_table.proofs.Openings.{last_lies}
use Rattle.tree_table.proofs.Passing.{beside_used, others_seen}
use Rattle.tree_table.proofs.Staying.{lies_stays}
use Rattle.sqlval.specs.PageSizes.{IsPageSize}

-- ---- one after the other

-- subtrees that are as they were
pub none_moved : (m : PageMap) (size depth : ℕ) (low high : ℤ) (rows : List Entry) (used free : List ℕ) (fan : Fan) → AreBeside m size depth low high rows used free fan → BecomeBeside m m size depth low high rows used free fan
none_moved m size depth low high rows used free fan is = record {
  now_used = used;
  now_free = free;
  beside = is;
  moves = record {
    longer = omega arith;
    counts = λ n. (let none = fresh_same (length m) (length m) n refl in omega (arith, none));
    keeps = λ n from to none. refl;
    whole = λ size whole. whole;
  };
  header = same_keeps m m refl;
}

pub beside_then : (old mid new : PageMap) (size depth deep : ℕ) (low high : ℤ) (rows : List Entry) (used free : List ℕ) (fan later : Fan) (b : BecomeBeside old mid size depth low high rows used free fan)
    → BecomeBeside mid new size deep low high rows b.now_used b.now_free later → BecomeBeside old new size deep low high rows used free later
beside_then old mid new size depth deep low high rows used free fan later b c = record {
  now_used = c.now_used;
  now_free = c.now_free;
  beside = c.beside;
  moves = in_sequence old mid new used free b.now_used b.now_free c.now_used c.now_free b.moves c.moves;
  header = keeps_then old mid new b.header c.header;
}

-- ---- down to the leaves

module _ (m : PageMap) (size : ℕ) (low high : ℤ) (rows : List Entry) (used free : List ℕ) (fan : Fan) where
  -- what the last page says
  abbrev last_told : (depth : ℕ) → AreBeside m size depth low high rows used free fan → IsTold m fan.last
  last_told zero is =
      let lies = last_lies (Lies m size zero) is.kids is.last is.lies in
      record { node = Rows lies.said; says = subst (λ (n : ℕ). Says m n (Rows lies.said)) (sym is.fan_is.last_is) lies.says; ours = tt }
  last_told (suc depth) is =
      let lies = last_lies (Lies m size (suc depth)) is.kids is.last is.lies in
      let node = Keys (children (top depth) is.last.kids) (top depth is.last.last) in
      record { node = node; says = subst (λ (n : ℕ). Says m n node) (sym is.fan_is.last_is) lies.0; ours = tt }

  pub last_refused : (depth : ℕ) (fault : Fault) → AreBeside m size depth low high rows used free fan → FindsParts m size fan.last (Err fault) → IsOutside fault
  last_refused depth fault is finds = (let told = last_told depth is in finds told.node is.free_are.whole told.says told.ours)

  pub are_leaves : (depth count : ℕ) (parts : Parts) → AreBeside m size depth low high rows used free fan → FindsParts m size fan.last (Ok parts) → parts ≡ Cells count → BecomeBeside m m size 0 low high rows used free fan
  are_leaves zero count parts is finds cells = none_moved m size 0 low high rows used free fan is
  are_leaves (suc depth) count parts is finds cells =
      let told = last_told (suc depth) is in
      absurd (not_children count (suc (length (children (top depth) is.last.kids))) (sym cells ∙ finds told.node is.free_are.whole told.says told.ours))

  -- pages with children stand above leaves
  pub by_depth : (depth count : ℕ) (parts : Parts) (Goal : ℕ → Type 0) → AreBeside m size depth low high rows used free fan → FindsParts m size fan.last (Ok parts) → parts ≡ Children count
      → ((less : ℕ) → AreBeside m size (suc less) low high rows used free fan → Goal (suc less)) → Goal depth
  by_depth zero count parts Goal is finds kids so =
      let told = last_told zero is in
      let lies = last_lies (Lies m size zero) is.kids is.last is.lies in
      absurd (not_children (length lies.said) count (sym (sym kids ∙ finds told.node is.free_are.whole told.says told.ours)))
  by_depth (suc depth) count parts Goal is finds kids so = so depth is

pub leaves_then : (old mid new : PageMap) (size less ways : ℕ) (low high : ℤ) (rows : List Entry) (used free : List ℕ) (below : Fan) (result : Result Fan Fault) → BecomeBeside old mid size less low high rows used free below
    → FindsLeaves mid new size below (ways - 1) result → suc less ≤ ways → MatchResult result (BecomeBeside old new size 0 low high rows used free) IsOutside
leaves_then old mid new size less ways low high rows used free below result b finds le = by result (finds less low high rows b.now_used b.now_free b.beside (omega (arith, le)))
  where
    by : (result : Result Fan Fault) → MatchResult result (BecomeBeside mid new size 0 low high rows b.now_used b.now_free) IsOutside → MatchResult result (BecomeBeside old new size 0 low high rows used free) IsOutside
    by (Ok later) c = beside_then old mid new size less 0 low high rows used free below later b c
    by (Err fault) outside = outside

-- ---- up to the root

other_page : (root n : ℕ) (used free : List ℕ) → occurs root used + occurs root free ≡ 0 → occurs n used + occurs n free ≤ 1 → 1 ≤ occurs n used → occurs n (root ∷ []) + occurs n free ≡ 0
other_page root n used free none most some = elim (cases_eq root n) [
  | inl same ↦ absurd (let none_here = subst (λ (k : ℕ). occurs k used + occurs k free ≡ 0) same none in omega (arith, none_here, some))
  | inr other ↦ (let gone : occurs n (root ∷ []) ≡ 0 = not_here other in omega (arith, gone, most, some))
]
  where
    not_here : (root ≡ n → ⊥) → occurs n (root ∷ []) ≡ 0
    not_here other = grind (arith, common_steps)

module _ (old : PageMap) (size depth root : ℕ) (low high : ℤ) (rows : List Entry) (used free : List ℕ) (fan : Fan) (is : AreBeside old size depth low high rows used free fan) (has : Has old root)
    (unfree : occurs root used + occurs root free ≡ 0) where
  start_le : (n : ℕ) → start_of n ≤ 100
  start_le n = grind (arith, common_steps)

  pub few_fit : length (cells_of fan) ≤ 16 → Fits size (start_of root) 4 (cells_of fan)
  few_fit few =
      let sizes = large_size size is.sized in
      record {
        addressed = sizes.1;
        some = say_some size (cells_of fan) (Keys (children (top depth) is.kids) (top depth is.last)) (is.fan_is.cells, is.fan_is.near);
        room = (let near = start_le root in let small = cells_room (cells_of fan) (children (top depth) is.kids) is.fan_is.cells in let big = sizes.0 in omega (arith, near, small, few, big));
      }

  raised_built : (new : PageMap) (levels : ℕ) → IsRaised old new size root TableInterior free fan.last (cells_of fan) → IsBuilt old new size root (depth + suc levels) low high rows used free
  raised_built new levels r =
      let moves = r.moved.moves in
      let kids = children (top depth) is.kids in
      let last = top depth is.last in
      let t : Tree (suc depth) = record { page = root; kids = is.kids; last = is.last } in
      let there : Has new root = record { first = has.first; last = (let last = has.last in let longer = moves.longer in omega (arith, last, longer)) } in
      let page_is = subst (λ (n : ℕ). IsTreePage 5 (page_at new root) (start_of root) (to_be_bytes w32 n) (cells_of fan)) is.fan_is.last_is r.root_is in
      let node : IsNode (page_at new root) (start_of root) (Keys kids last) = record { cells = cells_of fan; page_is = page_is; say = (is.fan_is.cells, is.fan_is.near) } in
      let pages = ap (λ (us : List ℕ). root ∷ us) is.used_are in
      record {
        depth = suc depth;
        shallow = omega arith;
        put = record {
          tree = t;
          top_is = refl;
          lies = (
            record { has = there; node_is = node },
            each_stays depth (Lies old size depth) (Lies new size depth) is.kids is.last
                (λ u some k. lies_stays old new moves.longer size is.free_are.whole (moves.whole size is.free_are.whole) depth u
                (others_seen old new (root ∷ []) free (root ∷ []) free (pages_of depth u) moves
                (λ n one. other_page root n used free unfree (is.apart n) (let part = some n in let e = ap (occurs n) is.used_are in omega (arith, part, e, one)))) k)
                is.lies,
          );
          sorted = is.sorted;
          rows_are = is.rows_are;
          now_free = free;
          has = r.moved.has;
          moves = subst (λ (us : List ℕ). Moves old new (root ∷ used) free us free) (sym pages)
              (beside_used old new (root ∷ []) free (root ∷ []) free used (root ∷ used) (root ∷ used) moves (λ n. occurs_append n (root ∷ []) used) (λ n. occurs_append n (root ∷ []) used));
          header = r.moved.header;
        };
      }

  pub raised_or : (new : PageMap) (levels : ℕ) (result : Result ⊤ Fault) → Fits size (start_of root) 4 (cells_of fan) → Raises old new size root TableInterior fan.last (cells_of fan) result
      → MatchResult result (λ done. IsBuilt old new size root (depth + suc levels) low high rows used free) IsOutsideOrFull
  raised_or new levels result fit raises = by result (raises free is.free_are has (omega (arith, unfree)) refl fit)
    where
      by : (result : Result ⊤ Fault) → MatchResult result (λ done. IsRaised old new size root TableInterior free fan.last (cells_of fan)) IsOutside
          → MatchResult result (λ done. IsBuilt old new size root (depth + suc levels) low high rows used free) IsOutsideOrFull
      by (Ok done) r = raised_built new levels r
      by (Err fault) outside = inl outside

-- ---- a tree that is built after subtrees moved

module _ (old mid : PageMap) (size deep root : ℕ) (low high : ℤ) (rows : List Entry) (used free : List ℕ) (fan : Fan) (b : BecomeBeside old mid size deep low high rows used free fan) where
  pub root_stays : Has old root → Has mid root
  root_stays has = record { first = has.first; last = (let last = has.last in let longer = b.moves.longer in omega (arith, last, longer)) }

  pub still_unfree : Has old root → occurs root used + occurs root free ≡ 0 → occurs root b.now_used + occurs root b.now_free ≡ 0
  still_unfree has none = (let at = b.moves.counts root in let old_page = not_fresh (length old) (length mid) root has.last in omega (arith, at, old_page, none))

  pub built_then : (new : PageMap) (most : ℕ) → IsBuilt mid new size root most low high rows b.now_used b.now_free → IsBuilt old new size root most low high rows used free
  built_then new most c =
      let put = c.put in
      record {
        depth = c.depth;
        shallow = c.shallow;
        put = record {
          tree = put.tree;
          top_is = put.top_is;
          lies = put.lies;
          sorted = put.sorted;
          rows_are = put.rows_are;
          now_free = put.now_free;
          has = put.has;
          moves = in_sequence old mid new (root ∷ used) free (root ∷ b.now_used) b.now_free (pages_of c.depth put.tree) put.now_free (beside old mid used free b.now_used b.now_free root b.moves) put.moves;
          header = keeps_then old mid new b.header put.header;
        };
      }

  pub built_or : (new : PageMap) (most : ℕ) (result : Result ⊤ Fault) → MatchResult result (λ done. IsBuilt mid new size root most low high rows b.now_used b.now_free) IsOutsideOrFull
      → MatchResult result (λ done. IsBuilt old new size root most low high rows used free) IsOutsideOrFull
  built_or new most (Ok done) c = built_then new most c
  built_or new most (Err fault) refused = refused

-- a sixteenth as many levels is one level less
less_levels : (levels above cells : ℕ) → 16 * above ≤ cells → cells ≤ 16 ^ suc (suc levels) → above ≤ 16 ^ suc levels
less_levels levels above cells few most = (let e = pow-succ' 16 (suc levels) in omega (arith, few, most, e))

-- over fewer subtrees a tree is built with one level less between
pub built_over : (old mid new : PageMap) (size depth root : ℕ) (low high : ℤ) (rows : List Entry) (used free : List ℕ) (fan above : Fan) (levels : ℕ) (result : Result ⊤ Fault)
    → BecomeBeside old mid size (suc depth) low high rows used free above × (16 * length (cells_of above) ≤ length (cells_of fan)) → BuildsOver mid new size root above (levels - 1) result → (levels ≡ 0 → ⊥)
    → Has old root → occurs root used + occurs root free ≡ 0 → length (cells_of fan) ≤ 16 ^ suc levels → MatchResult result (λ done. IsBuilt old new size root (depth + suc levels) low high rows used free) IsOutsideOrFull
built_over old mid new size depth root low high rows used free fan above zero result b builds some has unfree most = absurd (some refl)
built_over old mid new size depth root low high rows used free fan above (suc levels) result b builds some has unfree most =
    let less : suc levels - 1 ≡ levels = omega arith in
    let now = subst (λ (n : ℕ). BuildsOver mid new size root above n result) less builds in
    let fewer = less_levels levels (length (cells_of above)) (length (cells_of fan)) b.1 most in
    let there = root_stays old mid size (suc depth) root low high rows used free above b.0 has in
    let none = still_unfree old mid size (suc depth) root low high rows used free above b.0 has unfree in
    let same : suc depth + suc levels ≡ depth + suc (suc levels) = omega arith in
    built_or old mid size (suc depth) root low high rows used free above b.0 new (depth + suc (suc levels)) result
    (subst (λ (n : ℕ). MatchResult result (λ done. IsBuilt mid new size root n low high rows (b.0).now_used (b.0).now_free) IsOutsideOrFull) same
    (now (suc depth) low high rows (b.0).now_used (b.0).now_free (b.0).beside there none fewer))

-- ---- a whole tree

module _ (old : PageMap) (size root depth : ℕ) (low high : ℤ) (t : Tree (suc depth)) (free : List ℕ) (is : StandsUnder old size root 20 (suc depth) t free) (sorted : IsSorted (suc depth) low t high) (sized : IsPageSize size) where
  pub root_says : Says old root (Keys (children (top depth) t.kids) (top depth t.last))
  root_says = subst (λ (n : ℕ). Says old n (Keys (children (top depth) t.kids) (top depth t.last))) is.top_is is.lies.0

  root_once : (n : ℕ) → occurs n (root ∷ []) + occurs n (below_of (suc depth) t) + occurs n free ≤ 1
  root_once n = (let most = is.apart n in let e = ap (λ (k : ℕ). occurs n (k ∷ below_of (suc depth) t)) is.top_is in omega (arith, most, e))

  self : (n : ℕ) → occurs n (n ∷ []) ≡ 1
  self n = grind (arith, common_steps)

  pub root_apart : occurs root (below_of (suc depth) t) + occurs root free ≡ 0
  root_apart = (let most = root_once root in let one = self root in omega (arith, most, one))

  -- the children of the root stand side by side
  pub kids_beside : (fan : Fan) → IsFanOf (children (top depth) t.kids) (top depth t.last) fan → AreBeside old size depth low high (rows_of (suc depth) t) (below_of (suc depth) t) free fan
  kids_beside fan fan_is = record {
    kids = t.kids;
    last = t.last;
    fan_is = fan_is;
    lies = is.lies.1;
    sorted = sorted;
    rows_are = refl;
    used_are = refl;
    apart = λ n. (let most = is.apart n in omega (arith, most));
    first = is.first;
    free_are = is.free_are;
    sized = sized;
  }

  -- what was read of the root is the fan of its children
  pub root_fan : (fan : Fan) (before : List (List ℕ)) → before ≡ [] → (fan.last ≡ top depth t.last) × (cells_of fan ≡ before ++ root_says.node_is.cells) → IsFanOf (children (top depth) t.kids) (top depth t.last) fan
  root_fan fan before none read = record {
    cells = subst (λ (cs : List (List ℕ)). Pairwise IsKeyCell cs (children (top depth) t.kids)) (sym (read.1 ∙ ap (λ (xs : List (List ℕ)). xs ++ root_says.node_is.cells) none)) root_says.node_is.say.0;
    last_is = read.0;
    near = root_says.node_is.say.1;
  }

  -- a list is no longer than a machine's words count
  few_cells : (fan : Fan) → length (cells_of fan) ≤ 16 ^ suc 15
  few_cells fan = (let small = fan.cells.small in let ok = fan.cells.ok in let same = length-map fan.cells.items (λ cell. cell.items) in omega (arith, small, ok.0, ok.1, same))

  -- what is built over the leaves is built in the tree's place
  pub flattened_or : (mid new : PageMap) (leaves : Fan) (result : Result ⊤ Fault) → BecomeBeside old mid size 0 low high (rows_of (suc depth) t) (below_of (suc depth) t) free leaves → BuildsOver mid new size root leaves 15 result
      → MatchResult result (λ done. IsBuilt old new size root 16 low high (rows_of (suc depth) t) (below_of (suc depth) t) free) IsOutsideOrFull
  flattened_or mid new leaves result b builds =
      let rows = rows_of (suc depth) t in
      let used = below_of (suc depth) t in
      let has = root_says.has in
      built_or old mid size 0 root low high rows used free leaves b new 16 result
      (builds 0 low high rows b.now_used b.now_free b.beside (root_stays old mid size 0 root low high rows used free leaves b has) (still_unfree old mid size 0 root low high rows used free leaves b has root_apart) (few_cells leaves))

-- so few cells fit a root
pub none_between : (old : PageMap) (size depth root : ℕ) (low high : ℤ) (rows : List Entry) (used free : List ℕ) (fan : Fan) (is : AreBeside old size depth low high rows used free fan) (has : Has old root)
    (unfree : occurs root used + occurs root free ≡ 0) (levels : ℕ) → levels ≡ 0 → length (cells_of fan) ≤ 16 ^ suc levels → Fits size (start_of root) 4 (cells_of fan)
none_between old size depth root low high rows used free fan is has unfree levels none most =
    few_fit old size depth root low high rows used free fan is has unfree (subst (λ (n : ℕ). length (cells_of fan) ≤ 16 ^ suc n) none most)
