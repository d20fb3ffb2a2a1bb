-- A root that took over the cells of its one child.
use Rattle.std.proofs.Common.{◌≡◌, ◌≤◌, ◌<◌, ◌+◌, ℕ, zero, suc, ℤ, nat_lt, Bool, true, false, if◌then◌else◌, List, [], ◌∷◌, length, Option, Some, None, refl, sym, ap, subst, ◌∙◌, arith}
use Rattle.std.proofs.lemmas.Grind.{common_steps}
use Rattle.std.specs.Prelude.{⊤, Result, Ok, Err, MatchResult}
use Rattle.sqlval.specs.declared.fault.Fault.{Fault}
use Rattle.sqlval.specs.Faults.{IsOutside}
use Rattle.tree_leaf.specs.Leaf.{Entry}
use Rattle.pages.specs.Counting.{occurs, Moves}
use Rattle.pages.specs.Map.{PageMap, page_at, Has, AreWhole}
use Rattle.pages.proofs.Moving.{occurs_append}
use Rattle.freelist.specs.Calls.{AreFree, HasFree, KeepsHeader}
use Rattle.freelist.proofs.Lists.{occurs_self}
use Rattle.tree_overflow.proofs.Laying.{beside}
use Rattle.tree_page.specs.Node.{Node, Rows, Keys, IsNode}
use Rattle.tree_store.specs.Saying.{Says}
use Rattle.tree_store.specs.Sides.{children, each_of, nothing}
use Rattle.tree_table.specs.Growing.{below_of, Shows}
use Rattle.tree_table.specs.Lowering.{lone_of, IsTakenOver, AreApart, TakesOver}
use Rattle.tree_table.specs.Tree.{Tree, top, rows_of, pages_of, IsSorted, Lies}
use Rattle.tree_table.proofs.Holes.{Kids, pages_in}
use Rattle.tree_table.proofs.Passing.{top_there, beside_used, others_seen}
use Rattle.tree_table.proofs.Planting.{moved_to, top_moved, rows_moved, pages_moved, pages_split, sorted_moved, lies_moved, after_one}
use Rattle.tree_table.proofs.Staying.{AreSeen, says_stays, shows_stays}
use Rattle.tree_table.proofs.TakingOver.{some_cells}

some_or_none : {A : Type 0} {x : A} → Some x ≡ None → ⊥
some_or_none e = cc

same_some : {A : Type 0} {x y : A} → Some x ≡ Some y → x ≡ y
same_some e = cc

both_none : (b : Bool) → ◌≡◌ {A = Option ℕ} (if b then None else None) None
both_none true = refl
both_none false = refl

-- a leaf has no child
lone_rows : (child : ℕ) (n : ℕ) → Some child ≡ (if nat_lt 0 n then None else None) → ⊥
lone_rows child n e = some_or_none (e ∙ both_none (nat_lt 0 n))

-- the tree has these rows then
pub record IsLowerTree (old new : PageMap) (size root most : ℕ) (low high : ℤ) (rows : List Entry) (used free : List ℕ) : Type 0 where
  pub deep : ℕ
  pub t : Tree deep
  pub near : deep ≤ most
  pub top_is : top deep t ≡ root
  pub lies : Lies new size deep t
  pub sorted : IsSorted deep low t high
  pub rows_are : rows_of deep t ≡ rows
  pub now_free : List ℕ
  pub has : HasFree new size now_free
  pub moves : Moves old new used free (pages_of deep t) now_free
  pub header : KeepsHeader old new

-- ---- a tree on another page

record IsShown (map' : PageMap) (size depth : ℕ) (t : Tree depth) : Type 0 where
  pub node : Node
  pub says : Says map' (top depth t) node
  pub shows : Shows map' size depth t node

shown : (map' : PageMap) (size depth : ℕ) (t : Tree depth) → Lies map' size depth t → IsShown map' size depth t
shown map' size zero t lies = record { node = Rows lies.said; says = lies.says; shows = (lies.said, refl, lies.rows) }
shown map' size (suc depth) t lies = record { node = Keys (children (top depth) t.kids) (top depth t.last); says = lies.0; shows = (refl, lies.1) }

far_of : (n : ℕ) (rest : List ℕ) → 1 ≤ n → occurs 1 (n ∷ rest) ≡ 0 → 1 < n
far_of n rest some none = grind (arith, common_steps)

module _ (old new : PageMap) (size : ℕ) (free : List ℕ) (are : AreFree old size free) (n depth : ℕ) (c : Tree depth) (lies : Lies old size depth c) (far : 1 < n) (there : Has old n)
    (once : (m : ℕ) → occurs m (n ∷ pages_of depth c) + occurs m free ≤ 1) (first : occurs 1 (pages_of depth c) ≡ 0) where
  far_top : 1 < top depth c
  far_top = (let e = ap (occurs 1) (pages_split depth c) in far_of (top depth c) (below_of depth c) (top_there old size depth c lies).first (omega (arith, first, e)))

  pub are_apart : AreApart old free n (top depth c)
  are_apart = record {
    first = there;
    second = top_there old size depth c lies;
    after_first = far;
    after_second = far_top;
    once = λ m. (let one = once m in let e = ap (occurs m) (pages_split depth c) in let f = occurs_append m (n ∷ []) (top depth c ∷ []) in let g = occurs_append m (n ∷ []) (pages_of depth c) in
        let h = occurs_append m (top depth c ∷ []) (below_of depth c) in omega (arith, one, e, f, g, h));
  }

  module _ (is : IsTakenOver old new size free n (top depth c)) where
    whole_new : AreWhole size new
    whole_new = (is.moves).whole size are.whole

    below_seen : AreSeen old new (below_of depth c)
    below_seen = others_seen old new (n ∷ top depth c ∷ []) free (n ∷ []) is.now_free (below_of depth c) is.moves
        (λ m some. (let one = once m in let e = ap (occurs m) (pages_split depth c) in let f = occurs_append m (n ∷ []) (top depth c ∷ []) in let g = occurs_append m (n ∷ []) (pages_of depth c) in
        let h = occurs_append m (top depth c ∷ []) (below_of depth c) in omega (arith, one, e, f, g, h, some)))

    s : IsShown old size depth c
    s = shown old size depth c lies

    says_new : Says new n s.node
    says_new = record {
      has = (let last = there.last in let longer = (is.moves).longer in record { first = there.first; last = omega (arith, last, longer) });
      node_is = subst (λ (start : ℕ). IsNode (page_at new n) start s.node) (sym (after_one n far))
          (subst (λ (page : List ℕ). IsNode page 0 s.node) (sym is.is) (subst (λ (start : ℕ). IsNode (page_at old (top depth c)) start s.node) (after_one (top depth c) far_top) (s.says).node_is));
    }

    pub lies_new : Lies new size depth (moved_to depth n c)
    lies_new = lies_moved new size depth n c s.node (shows_stays old new (is.moves).longer size are.whole whole_new depth c s.node below_seen s.shows) says_new

    pub moves_new : Moves old new (n ∷ pages_of depth c) free (pages_of depth (moved_to depth n c)) is.now_free
    moves_new = beside_used old new (n ∷ top depth c ∷ []) free (n ∷ []) is.now_free (below_of depth c) (n ∷ pages_of depth c) (pages_of depth (moved_to depth n c)) is.moves
        (λ m. (let e = ap (occurs m) (pages_split depth c) in let f = occurs_append m (n ∷ []) (top depth c ∷ []) in let g = occurs_append m (n ∷ []) (pages_of depth c) in
        let h = occurs_append m (top depth c ∷ []) (below_of depth c) in omega (arith, e, f, g, h)))
        (λ m. (let e = ap (occurs m) (pages_moved depth n c) in let f = occurs_append m (n ∷ []) (below_of depth c) in omega (arith, e, f)))

-- ---- a root

module _ (old new : PageMap) (size root : ℕ) (low high : ℤ) (free : List ℕ) (are : AreFree old size free) where
  abbrev IsLone : ℕ → ℕ → Type 0
  IsLone number child = (node : Node) → Says old number node → Some child ≡ lone_of node

  abbrev Lowers : ℕ → List Entry → List ℕ → Result ⊤ Fault → Type 0
  Lowers most rows used result = MatchResult result (λ done. IsLowerTree old new size root most low high rows used free) IsOutside

  -- the root says something, and so does its one child
  pub root_says : (depth : ℕ) (t : Tree depth) → top depth t ≡ root → Lies old size depth t → (node : Node) × Says old root node
  root_says depth t at lies = (let s = shown old size depth t lies in (s.node, subst (λ (n : ℕ). Says old n s.node) at s.says))

  kids_say : (depth page : ℕ) (kids : Kids depth) (last : Tree depth) → page ≡ root → Lies old size (suc depth) (record { page = page; kids = kids; last = last }) → (child : ℕ) → IsLone root child
      → (node : Node) × Says old child node
  kids_say depth page (kid ∷ kids) last at lies child lone =
      absurd (some_or_none (lone (Keys (children (top depth) (kid ∷ kids)) (top depth last)) (subst (λ (n : ℕ). Says old n (Keys (children (top depth) (kid ∷ kids)) (top depth last))) at lies.0) ∙ some_cells (length (children (top depth) (kid ∷ kids))) (Some (top depth last)) (omega arith)))
  kids_say depth page [] last at lies child lone =
      let child_is : child ≡ top depth last = same_some (lone (Keys [] (top depth last)) (subst (λ (n : ℕ). Says old n (Keys [] (top depth last))) at lies.0)) in
      let s = shown old size depth last lies.1 in
      (s.node, subst (λ (n : ℕ). Says old n s.node) (sym child_is) s.says)

  pub child_says : (depth : ℕ) (t : Tree depth) → top depth t ≡ root → Lies old size depth t → (child : ℕ) → IsLone root child → (node : Node) × Says old child node
  child_says zero t at lies child lone = absurd (lone_rows child (length lies.said) (lone (Rows lies.said) (subst (λ (n : ℕ). Says old n (Rows lies.said)) at lies.says)))
  child_says (suc depth) t at lies child lone = kids_say depth t.page t.kids t.last at lies child lone

  -- other than page 1
  at_kids : (depth page : ℕ) (kids : Kids depth) (last : Tree depth) → page ≡ root → Lies old size (suc depth) (record { page = page; kids = kids; last = last })
      → IsSorted (suc depth) low (record { page = page; kids = kids; last = last }) high → ((n : ℕ) → occurs n (page ∷ pages_in depth kids last) + occurs n free ≤ 1) → occurs 1 (pages_in depth kids last) ≡ 0 → 1 < root
      → (child : ℕ) → IsLone root child → (result : Result ⊤ Fault) → TakesOver old new size root child result
      → Lowers (suc depth) (each_of (rows_of depth) nothing kids last) (page ∷ pages_in depth kids last) result
  at_kids depth page (kid ∷ kids) last at lies sorted once first far child lone result takes =
      absurd (some_or_none (lone (Keys (children (top depth) (kid ∷ kids)) (top depth last)) (subst (λ (n : ℕ). Says old n (Keys (children (top depth) (kid ∷ kids)) (top depth last))) at lies.0) ∙ some_cells (length (children (top depth) (kid ∷ kids))) (Some (top depth last)) (omega arith)))
  at_kids depth page [] last at lies sorted once first far child lone result takes =
      by result (subst (λ (n : ℕ). TakesOver old new size n child result) (sym at) takes)
    where
      child_is : child ≡ top depth last
      child_is = same_some (lone (Keys [] (top depth last)) (subst (λ (n : ℕ). Says old n (Keys [] (top depth last))) at lies.0))

      far_page : 1 < page
      far_page = (let e = at in omega (arith, far, e))

      by : (result : Result ⊤ Fault) → TakesOver old new size page child result → Lowers (suc depth) (rows_of depth last) (page ∷ pages_of depth last) result
      by (Err fault) takes = subst (λ (n : ℕ). TakesOver old new size page n (Err fault)) child_is takes free are (are_apart old new size free are page depth last lies.1 far_page lies.0.has once first)
      by (Ok done) takes =
          let is = subst (λ (n : ℕ). TakesOver old new size page n (Ok done)) child_is takes free are (are_apart old new size free are page depth last lies.1 far_page lies.0.has once first) in
          record {
            deep = depth;
            t = moved_to depth page last;
            near = omega arith;
            top_is = top_moved depth page last ∙ at;
            lies = lies_new old new size free are page depth last lies.1 far_page lies.0.has once first is;
            sorted = sorted_moved depth page low last high sorted;
            rows_are = rows_moved depth page last;
            now_free = is.now_free;
            has = is.has;
            moves = moves_new old new size free are page depth last lies.1 far_page lies.0.has once first is;
            header = is.header;
          }

  pub lowered_at : (depth : ℕ) (t : Tree depth) → top depth t ≡ root → Lies old size depth t → IsSorted depth low t high → ((n : ℕ) → occurs n (pages_of depth t) + occurs n free ≤ 1) → occurs 1 (below_of depth t) ≡ 0 → 1 < root
      → (child : ℕ) → IsLone root child → (result : Result ⊤ Fault) → TakesOver old new size root child result → Lowers depth (rows_of depth t) (pages_of depth t) result
  lowered_at zero t at lies sorted once first far child lone result takes = absurd (lone_rows child (length lies.said) (lone (Rows lies.said) (subst (λ (n : ℕ). Says old n (Rows lies.said)) at lies.says)))
  lowered_at (suc depth) t at lies sorted once first far child lone result takes = at_kids depth t.page t.kids t.last at lies sorted once first far child lone result takes

  -- page 1, whose one child has one child
  module _ (depth page : ℕ) (far : 1 < page) where
    child_kids : (kids : Kids depth) (last : Tree depth) → Lies old size (suc depth) (record { page = page; kids = kids; last = last }) → IsSorted (suc depth) low (record { page = page; kids = kids; last = last }) high
        → root ≡ 1 → Says old root (Keys [] page) → ((n : ℕ) → occurs n (root ∷ page ∷ pages_in depth kids last) + occurs n free ≤ 1) → occurs 1 (page ∷ pages_in depth kids last) ≡ 0
        → (below : ℕ) → IsLone page below → (result : Result ⊤ Fault) → TakesOver old new size page below result
        → Lowers (suc (suc depth)) (each_of (rows_of depth) nothing kids last) (root ∷ page ∷ pages_in depth kids last) result
    child_kids (kid ∷ kids) last lies sorted one says once first below lone result takes =
        absurd (some_or_none (lone (Keys (children (top depth) (kid ∷ kids)) (top depth last)) lies.0 ∙ some_cells (length (children (top depth) (kid ∷ kids))) (Some (top depth last)) (omega arith)))
    child_kids [] last lies sorted one says once first below lone result takes = by result takes
      where
        below_is : below ≡ top depth last
        below_is = same_some (lone (Keys [] (top depth last)) lies.0)

        once_child : (m : ℕ) → occurs m (page ∷ pages_of depth last) + occurs m free ≤ 1
        once_child m = (let all = once m in let e = occurs_append m (root ∷ []) (page ∷ pages_of depth last) in omega (arith, all, e))

        none_below : occurs 1 (pages_of depth last) ≡ 0
        none_below = (let e = occurs_append 1 (page ∷ []) (pages_of depth last) in omega (arith, first, e))

        by : (result : Result ⊤ Fault) → TakesOver old new size page below result → Lowers (suc (suc depth)) (rows_of depth last) (root ∷ page ∷ pages_of depth last) result
        by (Err fault) takes = subst (λ (n : ℕ). TakesOver old new size page n (Err fault)) below_is takes free are (are_apart old new size free are page depth last lies.1 far lies.0.has once_child none_below)
        by (Ok done) takes =
            let is = subst (λ (n : ℕ). TakesOver old new size page n (Ok done)) below_is takes free are (are_apart old new size free are page depth last lies.1 far lies.0.has once_child none_below) in
            let moved = moved_to depth page last in
            let root_seen = (is.moves).keeps root says.has.first says.has.last
            (let all = once root in let a = occurs_append root (root ∷ []) (page ∷ pages_of depth last) in let b = occurs_append root (page ∷ []) (pages_of depth last) in
            let c = occurs_append root (page ∷ []) (top depth last ∷ []) in let d = ap (occurs root) (pages_split depth last) in let e = occurs_append root (top depth last ∷ []) (below_of depth last) in
            let f = occurs_self root in let g = occurs_append root (root ∷ []) [] in omega (arith, all, a, b, c, d, e, f, g)) in
            let says_new = says_stays old new (is.moves).longer size are.whole ((is.moves).whole size are.whole) root (Keys [] page) root_seen says in
            record {
              deep = suc depth;
              t = record { page = root; kids = []; last = moved };
              near = omega arith;
              top_is = refl;
              lies = (
                subst (λ (n : ℕ). Says new root (Keys [] n)) (sym (top_moved depth page last)) says_new,
                lies_new old new size free are page depth last lies.1 far lies.0.has once_child none_below is,
              );
              sorted = sorted_moved depth page low last high sorted;
              rows_are = rows_moved depth page last;
              now_free = is.now_free;
              has = is.has;
              moves = beside old new (page ∷ pages_of depth last) free (pages_of depth moved) is.now_free root
                  (moves_new old new size free are page depth last lies.1 far lies.0.has once_child none_below is);
              header = is.header;
            }

  one_child : (depth : ℕ) (c : Tree depth) → 1 < top depth c → Lies old size depth c → IsSorted depth low c high → root ≡ 1 → Says old root (Keys [] (top depth c)) → ((n : ℕ) → occurs n (root ∷ pages_of depth c) + occurs n free ≤ 1)
      → occurs 1 (pages_of depth c) ≡ 0 → (below : ℕ) → IsLone (top depth c) below → (result : Result ⊤ Fault) → TakesOver old new size (top depth c) below result
      → Lowers (suc depth) (rows_of depth c) (root ∷ pages_of depth c) result
  one_child zero c far lies sorted one says once first below lone result takes = absurd (lone_rows below (length lies.said) (lone (Rows lies.said) lies.says))
  one_child (suc depth) c far lies sorted one says once first below lone result takes = child_kids depth c.page far c.kids c.last lies sorted one says once first below lone result takes

  root_kids : (depth page : ℕ) (kids : Kids depth) (last : Tree depth) → page ≡ root → Lies old size (suc depth) (record { page = page; kids = kids; last = last })
      → IsSorted (suc depth) low (record { page = page; kids = kids; last = last }) high → ((n : ℕ) → occurs n (page ∷ pages_in depth kids last) + occurs n free ≤ 1) → occurs 1 (pages_in depth kids last) ≡ 0 → root ≤ 1
      → (child : ℕ) → IsLone root child → (below : ℕ) → IsLone child below → (result : Result ⊤ Fault) → TakesOver old new size child below result
      → Lowers (suc depth) (each_of (rows_of depth) nothing kids last) (page ∷ pages_in depth kids last) result
  root_kids depth page (kid ∷ kids) last at lies sorted once first near child lone below lone_below result takes =
      absurd (some_or_none (lone (Keys (children (top depth) (kid ∷ kids)) (top depth last)) (subst (λ (n : ℕ). Says old n (Keys (children (top depth) (kid ∷ kids)) (top depth last))) at lies.0) ∙ some_cells (length (children (top depth) (kid ∷ kids))) (Some (top depth last)) (omega arith)))
  root_kids depth page [] last at lies sorted once first near child lone below lone_below result takes =
      let child_is : child ≡ top depth last = same_some (lone (Keys [] (top depth last)) (subst (λ (n : ℕ). Says old n (Keys [] (top depth last))) at lies.0)) in
      let some = (lies.0.has).first in
      let e = ap (occurs 1) (pages_split depth last) in
      subst (λ (n : ℕ). Lowers (suc depth) (rows_of depth last) (n ∷ pages_of depth last) result) (sym at)
      (one_child depth last (far_of (top depth last) (below_of depth last) (top_there old size depth last lies.1).first (omega (arith, first, e))) lies.1 sorted (omega (arith, some, near, at))
      (subst (λ (n : ℕ). Says old n (Keys [] (top depth last))) at lies.0) (subst (λ (m : ℕ). (n : ℕ) → occurs n (m ∷ pages_of depth last) + occurs n free ≤ 1) at once) first below
      (subst (λ (n : ℕ). IsLone n below) child_is lone_below) result (subst (λ (n : ℕ). TakesOver old new size n below result) child_is takes))

  pub lowered_below : (depth : ℕ) (t : Tree depth) → top depth t ≡ root → Lies old size depth t → IsSorted depth low t high → ((n : ℕ) → occurs n (pages_of depth t) + occurs n free ≤ 1) → occurs 1 (below_of depth t) ≡ 0 → root ≤ 1
      → (child : ℕ) → IsLone root child → (below : ℕ) → IsLone child below → (result : Result ⊤ Fault) → TakesOver old new size child below result
      → Lowers depth (rows_of depth t) (pages_of depth t) result
  lowered_below zero t at lies sorted once first near child lone below lone_below result takes =
      absurd (lone_rows child (length lies.said) (lone (Rows lies.said) (subst (λ (n : ℕ). Says old n (Rows lies.said)) at lies.says)))
  lowered_below (suc depth) t at lies sorted once first near child lone below lone_below result takes =
      root_kids depth t.page t.kids t.last at lies sorted once first near child lone below lone_below result takes
