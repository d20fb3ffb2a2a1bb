-- A tree that is built anew over its leaves.
use Rattle.std.proofs.Common.{◌≡◌, ◌≤◌, ◌<◌, ◌+◌, ◌-◌, ◌*◌, ◌^◌, ◌∙◌, ap, refl, sym, subst, ℕ, zero, suc, List, [], ◌∷◌, ◌++◌, length, map, Option, None, Some, inl, inr, arith}
use Rattle.std.proofs.lemmas.Bool.{cases_eq}
use Rattle.std.proofs.lemmas.List.{length-append, length-map}
use Rattle.std.proofs.Math.Nat.{pow-succ'}
use Rattle.std.specs.Int.{w32, to_be_bytes}
use Rattle.std.specs.Prelude.{⊤, Result, Ok, Err, MatchResult}
use Rattle.sqlval.specs.Faults.{IsOutside}
use Rattle.sqlval.specs.PageSizes.{IsPageSize}
use Rattle.sqlval.specs.declared.fault.Fault.{Fault}
use Rattle.pages.specs.Calls.{IsOutsideOrFull}
use Rattle.pages.specs.Counting.{occurs, start_of, Moves}
use Rattle.pages.specs.Map.{PageMap, page_at, Has}
use Rattle.pages.proofs.Moving.{in_sequence, occurs_append, not_fresh}
use Rattle.freelist.proofs.Pigeonholes.{AllFrom, few_between}
use Rattle.tree_overflow.proofs.Laying.{beside, keeps_then, same_keeps}
use Rattle.tree_page.specs.Cells.{Pairwise, IsTreePage}
use Rattle.tree_page.specs.Node.{Local, Between, IsNode, IsBetweenCell}
use Rattle.tree_page.specs.declared.items.Kind.TheVariants.{IndexInterior}
use Rattle.tree_page.proofs.HeaderLemmas.{same_length}
use Rattle.tree_pack.proofs.SmallLemmas.{say_some}
use Rattle.tree_pack.specs.Building.{Fits}
use Rattle.tree_store.specs.Saying.{Says}
use Rattle.tree_store.specs.Sides.{Each, children}
use Rattle.tree_store.specs.Staying.{AreKept}
use Rattle.tree_store.specs.Steps.{IsRaised, Raises}
use Rattle.tree_store.specs.Storing.{cells_of}
use Rattle.tree_store.specs.declared.storing.Fan.{Fan}
use Rattle.tree_store.proofs.PutPages.{fresh_same}
use Rattle.tree_store.proofs.Staying.{each_kept}
use Rattle.tree_index.specs.Comparing.{FindsChild}
use Rattle.tree_index.specs.Entries.{Entry}
use Rattle.tree_index.specs.Flattening.{AreAdded, AreInRow, BecomeRow, IsFanOf, FindsLeaves, IsBuilt, BuildsOver}
use Rattle.tree_index.specs.Freeing.{StandsUnder, below_of}
use Rattle.tree_index.specs.Tree.{IsKidAs, Tree, top, entries_of, pages_of, Lies}
use Rattle.tree_index.proofs.Emptied.{large_size}
use Rattle.tree_index.proofs.Fourths.{few_fit}
use Rattle.tree_index.proofs.Growth.{chain, pages_in}
use Rattle.tree_index.proofs.Openings.{Kids, last_holds}
use Rattle.tree_index.proofs.Shares.{beside_used, not_there, others_kept, self_once, start_after}
use Rattle.tree_index.proofs.Staying.{between_kept, lies_kept}
use Rattle.tree_index.proofs.Subtrees.{pages_split, top_there, told}

-- ---- one after the other

-- subtrees that are as they were
none_moved : (m : PageMap) (size depth : ℕ) (entries : List Entry) (used free : List ℕ) (fan : Fan) → AreInRow m size depth entries used free fan → BecomeRow m m size depth entries used free fan
none_moved m size depth entries used free fan is = record {
  now_used = used;
  now_free = free;
  row = is;
  moves = record {
    longer = omega arith;
    counts = λ n. (let none = fresh_same (length m) (length m) n refl in omega (arith, none));
    keeps = λ n from to none. refl;
    whole = λ size whole. whole;
  };
  header = same_keeps m m refl;
}

row_then : (old mid new : PageMap) (size depth deep : ℕ) (entries : List Entry) (used free : List ℕ) (fan later : Fan) (b : BecomeRow old mid size depth entries used free fan)
    → BecomeRow mid new size deep entries b.now_used b.now_free later → BecomeRow old new size deep entries used free later
row_then old mid new size depth deep entries used free fan later b c = record {
  now_used = c.now_used;
  now_free = c.now_free;
  row = c.row;
  moves = in_sequence old mid new used free b.now_used b.now_free c.now_used c.now_free b.moves c.moves;
  header = keeps_then old mid new b.header c.header;
}

-- ---- down to the leaves

none_some : {n : ℕ} → None ≡ Some n → ⊥
none_some e = cc

module _ (m : PageMap) (size : ℕ) (entries : List Entry) (used free : List ℕ) (fan : Fan) where
  pub last_refused : (depth : ℕ) (fault : Fault) → AreInRow m size depth entries used free fan → FindsChild m size fan.last 0 (Err fault) → IsOutside fault
  last_refused depth fault is finds =
      let its = told m size fan.last depth is.last (sym is.fan_is.last_is) (last_holds (Lies m size depth) is.kids is.last is.lies) in
      finds its.node is.free_are.whole its.has.says its.has.ours

  -- the last page is a leaf
  pub are_leaves : (depth : ℕ) (found : Option ℕ) → AreInRow m size depth entries used free fan → ((child : ℕ) → found ≡ Some child → ⊥) → FindsChild m size fan.last 0 (Ok found) → BecomeRow m m size 0 entries used free fan
  are_leaves zero found is none finds = none_moved m size 0 entries used free fan is
  are_leaves (suc depth) found is none finds =
      let its = told m size fan.last (suc depth) is.last (sym is.fan_is.last_is) (last_holds (Lies m size (suc depth)) is.kids is.last is.lies) in
      absurd (none _ (finds its.node is.free_are.whole its.has.says its.has.ours))

  -- pages with children stand above leaves
  pub by_depth : (depth child : ℕ) (found : Option ℕ) (Goal : ℕ → Type 0) → AreInRow m size depth entries used free fan → FindsChild m size fan.last 0 (Ok found) → found ≡ Some child
      → ((less : ℕ) → AreInRow m size (suc less) entries used free fan → Goal (suc less)) → Goal depth
  by_depth zero child found Goal is finds some so =
      let its = told m size fan.last zero is.last (sym is.fan_is.last_is) (last_holds (Lies m size zero) is.kids is.last is.lies) in
      absurd (none_some (sym (finds its.node is.free_are.whole its.has.says its.has.ours) ∙ some))
  by_depth (suc depth) child found Goal is finds some so = so depth is

pub leaves_then : (old mid new : PageMap) (size less ways : ℕ) (entries : List Entry) (used free : List ℕ) (below : Fan) (result : Result Fan Fault) → BecomeRow old mid size less entries used free below
    → FindsLeaves mid new size below (ways - 1) result → suc less ≤ ways → MatchResult result (BecomeRow old new size 0 entries used free) IsOutside
leaves_then old mid new size less ways entries used free below result b finds le = by result (finds less entries b.now_used b.now_free b.row (omega (arith, le)))
  where
    by : (result : Result Fan Fault) → MatchResult result (BecomeRow mid new size 0 entries b.now_used b.now_free) IsOutside → MatchResult result (BecomeRow old new size 0 entries used free) IsOutside
    by (Ok later) c = row_then old mid new size less 0 entries used free below later b c
    by (Err fault) outside = outside

-- ---- how many subtrees there are

module _ (m : PageMap) (size depth : ℕ) where
  -- the page at each top is one of the pages
  tops_among : (n : ℕ) (said : List (ℕ × Local)) (kids : Kids depth) (last : Tree depth) → Pairwise (IsKidAs m size) said (children (top depth) kids)
      → occurs n (map (λ (kid : ℕ × Local). kid.0) said ++ top depth last ∷ []) ≤ occurs n (pages_in depth kids last)
  tops_among n [] [] last shown = (let split = ap (occurs n) (pages_split depth last) in let both = occurs_append n (top depth last ∷ []) (below_of depth last) in omega (arith, split, both))
  tops_among n [] (kid ∷ kids) last shown = absurd shown
  tops_among n (it ∷ said) [] last shown = absurd shown
  tops_among n (it ∷ said) (kid ∷ kids) last shown =
      let rest = tops_among n said kids last shown.1 in
      let split = ap (occurs n) (pages_split depth kid.0) in
      let first = ap (λ (k : ℕ). occurs n (k ∷ [])) shown.0.0 in
      let one = occurs_append n (it.0 ∷ []) (map (λ (kid : ℕ × Local). kid.0) said ++ top depth last ∷ []) in
      let two = occurs_append n (pages_of depth kid.0) (kid.1.pages ++ pages_in depth kids last) in
      let three = occurs_append n kid.1.pages (pages_in depth kids last) in
      let four = occurs_append n (top depth kid.0 ∷ []) (below_of depth kid.0) in
      omega (arith, rest, split, first, one, two, three, four)

  tops_near : (cells : List (List ℕ)) (said : List (ℕ × Local)) (kids : Kids depth) (last : Tree depth) → Pairwise (IsBetweenCell size) cells said → Pairwise (IsKidAs m size) said (children (top depth) kids) → Each (Lies m size depth) kids last
      → top depth last < 2 ^ 32 → AllFrom 1 (2 ^ 32) (map (λ (kid : ℕ × Local). kid.0) said ++ top depth last ∷ [])
  tops_near cells [] [] last say shown lies near = (((top_there m size depth last lies).first, near), tt)
  tops_near cells [] (kid ∷ kids) last say shown lies near = absurd shown
  tops_near cells (it ∷ said) [] last say shown lies near = absurd shown
  tops_near [] (it ∷ said) (kid ∷ kids) last say shown lies near = absurd say
  tops_near (cell ∷ cells) (it ∷ said) (kid ∷ kids) last say shown lies near = (
    (subst (λ (n : ℕ). 1 ≤ n) (sym shown.0.0) (top_there m size depth kid.0 lies.0).first, say.0.near),
    tops_near cells said kids last say.1 shown.1 lies.1 near,
  )

-- no more subtrees than pages have numbers
pub row_few : (m : PageMap) (size depth : ℕ) (entries : List Entry) (used free : List ℕ) (fan : Fan) → AreInRow m size depth entries used free fan → length (cells_of fan) < 2 ^ 32
row_few m size depth entries used free fan is =
    let numbers = map (λ (kid : ℕ × Local). kid.0) is.said ++ top depth is.last ∷ [] in
    let among : (n : ℕ) → occurs n numbers ≤ occurs n used = λ n. (let few = tops_among m size depth n is.said is.kids is.last is.shown in let e = ap (occurs n) is.used_are in omega (arith, few, e)) in
    let few = few_between (2 ^ 32) numbers (tops_near m size depth (cells_of fan) is.said is.kids is.last is.fan_is.cells is.shown is.lies is.fan_is.near)
    (λ n. (let le = among n in let most = is.apart n in omega (arith, le, most))) (let le = among 1 in let none = is.first in omega (arith, le, none)) (omega arith) in
    let said = same_length (IsBetweenCell size) (cells_of fan) is.said is.fan_is.cells in
    let long = length-append (map (λ (kid : ℕ × Local). kid.0) is.said) (top depth is.last ∷ []) in
    let same = length-map is.said (λ (kid : ℕ × Local). kid.0) in
    omega (arith, few, said, long, same)

-- ---- up to the root

other_page : (root n : ℕ) (used free : List ℕ) → occurs root used + occurs root free ≡ 0 → occurs n used + occurs n free ≤ 1 → 1 ≤ occurs n used → occurs n (root ∷ []) + occurs n free ≡ 0
other_page root n used free none most some = elim (cases_eq root n) [
  | inl same ↦ absurd (let none_here = subst (λ (k : ℕ). occurs k used + occurs k free ≡ 0) same none in omega (arith, none_here, some))
  | inr other ↦ (let gone = not_there n root other in omega (arith, gone, most, some))
]

module _ (old : PageMap) (size depth root : ℕ) (entries : List Entry) (used free : List ℕ) (fan : Fan) (is : AreInRow old size depth entries used free fan) (has : Has old root) (far : 1 < root)
    (unfree : occurs root used + occurs root free ≡ 0) where
  cells_fit : length (cells_of fan) ≤ 3 → Fits size (start_of root) 4 (cells_of fan)
  cells_fit few =
      let sizes = large_size size is.sized in
      record { addressed = sizes.1; some = say_some size (cells_of fan) (Between is.said (top depth is.last)) (is.fan_is.cells, is.fan_is.near); room = (let start = start_after root far in let small = few_fit size (cells_of fan) is.said sizes.0 is.fan_is.cells few in omega (arith, start, small)) }

  raised_built : (new : PageMap) (levels : ℕ) → IsRaised old new size root IndexInterior free fan.last (cells_of fan) → IsBuilt old new size root (depth + suc levels) entries used free
  raised_built new levels r =
      let moves = r.moved.moves in
      let last = top depth is.last in
      let t : Tree (suc depth) = record { page = root; kids = is.kids; last = is.last } in
      let there : Has new root = record { first = has.first; last = (let last = has.last in let longer = moves.longer in omega (arith, last, longer)) } in
      let long : length (page_at new root) ≡ size = moves.whole size is.free_are.whole root there in
      let page_is = subst (λ (n : ℕ). IsTreePage 2 (page_at new root) (start_of root) (to_be_bytes w32 n) (cells_of fan)) is.fan_is.last_is r.root_is in
      let node : IsNode (page_at new root) (start_of root) (Between is.said last) =
      record { cells = cells_of fan; page_is = page_is; say = (subst (λ (n : ℕ). Pairwise (IsBetweenCell n) (cells_of fan) is.said) (sym long) is.fan_is.cells, is.fan_is.near) } in
      let kept : AreKept old new size (pages_in depth is.kids is.last) = others_kept old new size (root ∷ []) free (root ∷ []) free (pages_in depth is.kids is.last) is.free_are.whole moves
      (λ n some. other_page root n used free unfree (is.apart n) (let e = ap (occurs n) is.used_are in omega (arith, some, e))) in
      let pages = ap (λ (us : List ℕ). root ∷ us) is.used_are in
      record {
        depth = suc depth;
        shallow = omega arith;
        put = record {
          tree = t;
          top_is = refl;
          lies = (
            record { said = is.said; says = record { has = there; node_is = node }; children = between_kept old new size (top depth) (pages_of depth) is.said is.kids is.last kept is.shown },
            each_kept (Lies old size depth) (Lies new size depth) (pages_of depth) chain old new size (λ u k its. lies_kept old new size depth u k its) is.kids is.last kept is.lies,
          );
          entries_are = is.entries_are;
          now_free = free;
          has = r.moved.has;
          moves = subst (λ (us : List ℕ). Moves old new (root ∷ used) free us free) (sym pages)
              (beside_used old new (root ∷ []) free (root ∷ []) free used (root ∷ used) (root ∷ used) moves (λ n. occurs_append n (root ∷ []) used) (λ n. occurs_append n (root ∷ []) used));
          header = r.moved.header;
        };
      }

  pub raised_or : (new : PageMap) (levels : ℕ) (result : Result ⊤ Fault) → Fits size (start_of root) 4 (cells_of fan) → Raises old new size root IndexInterior fan.last (cells_of fan) result
      → MatchResult result (λ done. IsBuilt old new size root (depth + suc levels) entries used free) IsOutsideOrFull
  raised_or new levels result fit raises = by result (raises free is.free_are has (omega (arith, unfree)) refl fit)
    where
      by : (result : Result ⊤ Fault) → MatchResult result (λ done. IsRaised old new size root IndexInterior free fan.last (cells_of fan)) IsOutside
          → MatchResult result (λ done. IsBuilt old new size root (depth + suc levels) entries used free) IsOutsideOrFull
      by (Ok done) r = raised_built new levels r
      by (Err fault) outside = inl outside

-- ---- a tree that is built after subtrees moved

module _ (old mid : PageMap) (size deep root : ℕ) (entries : List Entry) (used free : List ℕ) (fan : Fan) (b : BecomeRow old mid size deep entries used free fan) where
  pub root_stays : Has old root → Has mid root
  root_stays has = record { first = has.first; last = (let last = has.last in let longer = b.moves.longer in omega (arith, last, longer)) }

  pub still_unfree : Has old root → occurs root used + occurs root free ≡ 0 → occurs root b.now_used + occurs root b.now_free ≡ 0
  still_unfree has none = (let at = b.moves.counts root in let old_page = not_fresh (length old) (length mid) root has.last in omega (arith, at, old_page, none))

  built_then : (new : PageMap) (most : ℕ) → IsBuilt mid new size root most entries b.now_used b.now_free → IsBuilt old new size root most entries used free
  built_then new most c =
      let put = c.put in
      record {
        depth = c.depth;
        shallow = c.shallow;
        put = record {
          tree = put.tree;
          top_is = put.top_is;
          lies = put.lies;
          entries_are = put.entries_are;
          now_free = put.now_free;
          has = put.has;
          moves = in_sequence old mid new (root ∷ used) free (root ∷ b.now_used) b.now_free (pages_of c.depth put.tree) put.now_free (beside old mid used free b.now_used b.now_free root b.moves) put.moves;
          header = keeps_then old mid new b.header put.header;
        };
      }

  pub built_or : (new : PageMap) (most : ℕ) (result : Result ⊤ Fault) → MatchResult result (λ done. IsBuilt mid new size root most entries b.now_used b.now_free) IsOutsideOrFull
      → MatchResult result (λ done. IsBuilt old new size root most entries used free) IsOutsideOrFull
  built_or new most (Ok done) c = built_then new most c
  built_or new most (Err fault) refused = refused

-- a fourth as many need one level less
less_levels : (levels above cells : ℕ) → 4 * above ≤ cells → cells < 4 ^ suc (suc levels) → above < 4 ^ suc levels
less_levels levels above cells few most = (let e = pow-succ' 4 (suc levels) in omega (arith, few, most, e))

-- over fewer subtrees a tree is built with one level less between
pub built_over : (old mid new : PageMap) (size depth root : ℕ) (entries : List Entry) (used free : List ℕ) (fan above : Fan) (levels : ℕ) (result : Result ⊤ Fault)
    → BecomeRow old mid size (suc depth) entries used free above × (4 * length (cells_of above) ≤ length (cells_of fan)) → BuildsOver mid new size root above (levels - 1) result → (levels ≡ 0 → ⊥)
    → Has old root → 1 < root → occurs root used + occurs root free ≡ 0 → length (cells_of fan) < 4 ^ suc levels → MatchResult result (λ done. IsBuilt old new size root (depth + suc levels) entries used free) IsOutsideOrFull
built_over old mid new size depth root entries used free fan above zero result b builds some has far unfree most = absurd (some refl)
built_over old mid new size depth root entries used free fan above (suc levels) result b builds some has far unfree most =
    let less : suc levels - 1 ≡ levels = omega arith in
    let now = subst (λ (n : ℕ). BuildsOver mid new size root above n result) less builds in
    let fewer = less_levels levels (length (cells_of above)) (length (cells_of fan)) b.1 most in
    let there = root_stays old mid size (suc depth) root entries used free above b.0 has in
    let none = still_unfree old mid size (suc depth) root entries used free above b.0 has unfree in
    let same : suc depth + suc levels ≡ depth + suc (suc levels) = omega arith in
    built_or old mid size (suc depth) root entries used free above b.0 new (depth + suc (suc levels)) result
    (subst (λ (n : ℕ). MatchResult result (λ done. IsBuilt mid new size root n entries (b.0).now_used (b.0).now_free) IsOutsideOrFull) same
    (now (suc depth) entries (b.0).now_used (b.0).now_free (b.0).row there far none fewer))

-- so few cells fit a root
pub none_between : (old : PageMap) (size depth root : ℕ) (entries : List Entry) (used free : List ℕ) (fan : Fan) (is : AreInRow old size depth entries used free fan) (has : Has old root) (far : 1 < root)
    (unfree : occurs root used + occurs root free ≡ 0) (levels : ℕ) → levels ≡ 0 → length (cells_of fan) < 4 ^ suc levels → Fits size (start_of root) 4 (cells_of fan)
none_between old size depth root entries used free fan is has far unfree levels none most =
    let four = subst (λ (n : ℕ). length (cells_of fan) < 4 ^ suc n) none most in
    cells_fit old size depth root entries used free fan is has far unfree (omega (arith, four))

-- ---- a whole tree

module _ (old : PageMap) (size root depth : ℕ) (t : Tree (suc depth)) (free : List ℕ) (is : StandsUnder old size root 20 (suc depth) t free) (sized : IsPageSize size) where
  pub root_says : Says old root (Between is.lies.0.said (top depth t.last))
  root_says = subst (λ (n : ℕ). Says old n (Between is.lies.0.said (top depth t.last))) is.top_is is.lies.0.says

  root_once : (n : ℕ) → occurs n (root ∷ []) + occurs n (below_of (suc depth) t) + occurs n free ≤ 1
  root_once n = (let most = is.apart n in let e = ap (λ (k : ℕ). occurs n (k ∷ below_of (suc depth) t)) is.top_is in let both = occurs_append n (root ∷ []) (below_of (suc depth) t) in omega (arith, most, e, both))

  pub root_apart : occurs root (below_of (suc depth) t) + occurs root free ≡ 0
  root_apart = (let most = root_once root in let one = self_once root [] in omega (arith, most, one))

  -- the children of the root stand in a row
  pub kids_row : (fan : Fan) → IsFanOf size is.lies.0.said (top depth t.last) fan → AreInRow old size depth (entries_of (suc depth) t) (below_of (suc depth) t) free fan
  kids_row fan fan_is = record {
    kids = t.kids;
    last = t.last;
    said = is.lies.0.said;
    fan_is = fan_is;
    shown = is.lies.0.children;
    lies = is.lies.1;
    entries_are = refl;
    used_are = refl;
    apart = λ n. (let most = root_once n in omega (arith, most));
    first = (let none = is.first in let both = occurs_append 1 (t.page ∷ []) (below_of (suc depth) t) in omega (arith, none, both));
    free_are = is.free_are;
    sized = sized;
  }

  -- what was read of the root is the fan of its children
  pub root_fan : (fan : Fan) (before : List (List ℕ)) → before ≡ [] → (fan.last ≡ top depth t.last) × AreAdded size before (cells_of fan) is.lies.0.said → IsFanOf size is.lies.0.said (top depth t.last) fan
  root_fan fan before none read = record {
    cells = subst (λ (cs : List (List ℕ)). Pairwise (IsBetweenCell size) cs is.lies.0.said) (sym (read.1.1 ∙ ap (λ (xs : List (List ℕ)). xs ++ read.1.0) none)) read.1.2;
    last_is = read.0;
    near = root_says.node_is.say.1;
  }

  -- what is built over the leaves is built in the tree's place
  pub flattened_or : (mid new : PageMap) (leaves : Fan) (result : Result ⊤ Fault) → 1 < root → BecomeRow old mid size 0 (entries_of (suc depth) t) (below_of (suc depth) t) free leaves → BuildsOver mid new size root leaves 15 result
      → MatchResult result (λ done. IsBuilt old new size root 16 (entries_of (suc depth) t) (below_of (suc depth) t) free) IsOutsideOrFull
  flattened_or mid new leaves result far b builds =
      let entries = entries_of (suc depth) t in
      let used = below_of (suc depth) t in
      let has = root_says.has in
      let few = row_few mid size 0 entries b.now_used b.now_free leaves b.row in
      built_or old mid size 0 root entries used free leaves b new 16 result
      (builds 0 entries b.now_used b.now_free b.row (root_stays old mid size 0 root entries used free leaves b has) far (still_unfree old mid size 0 root entries used free leaves b has root_apart) (omega (arith, few)))
