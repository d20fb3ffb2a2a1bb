-- A root that takes over the cells of its one child.
use Rattle.std.proofs.Common.{◌≡◌, ◌≤◌, ◌<◌, ◌+◌, ℕ, zero, suc, List, [], ◌∷◌, ◌++◌, length, map, None, Some, refl, sym, ap, subst, ◌∙◌, inl, arith}
use Rattle.std.specs.Prelude.{⊤, Result, Ok, Err, MatchResult}
use Rattle.sqlval.specs.Faults.{IsOutside}
use Rattle.sqlval.specs.declared.collation.Collation.{Collation}
use Rattle.sqlval.specs.declared.fault.Fault.{Fault}
use Rattle.pages.specs.Calls.{IsOutsideOrFull}
use Rattle.pages.specs.Counting.{occurs, Moves}
use Rattle.pages.specs.Map.{PageMap, page_at, Has}
use Rattle.pages.proofs.Moving.{in_sequence, occurs_append}
use Rattle.tree_overflow.proofs.Laying.{keeps_then}
use Rattle.tree_page.specs.Cells.{Pairwise}
use Rattle.tree_page.specs.Node.{Local, Node, Entries, Between, IsNode}
use Rattle.tree_page.specs.Reading.{count_of, last_of}
use Rattle.tree_pack.specs.Packing.{images}
use Rattle.tree_pack.specs.declared.spreading.Packed.{Packed}
use Rattle.tree_pack.specs.declared.spreading.Piece.{Piece}
use Rattle.tree_store.specs.Saying.{Says}
use Rattle.tree_store.specs.Sides.{Each, children, each_of}
use Rattle.tree_store.specs.Staying.{AreKept}
use Rattle.tree_index.specs.Calls.{Stands, BecomesEntries}
use Rattle.tree_index.specs.Entries.{Entry, AreEntries}
use Rattle.tree_index.specs.Freeing.{all_of, below_of}
use Rattle.tree_index.specs.Growing.{Shows, IsTop, IsPlanned, entries_in}
use Rattle.tree_index.specs.Lowering.{IsLone, IsTakenOver, AreApart, TakesOver}
use Rattle.tree_index.specs.Tree.{Held, IsKidAs, Tree, top, entries_of, pages_of, Lies}
use Rattle.tree_index.proofs.Clearing.{top_and_below, number_far}
use Rattle.tree_index.proofs.Growth.{chain, moves_top, planned_once, planned_after}
use Rattle.tree_index.proofs.Planting.{moved_to, top_moved, entries_moved, pages_moved, lies_moved, shows_kept}
use Rattle.tree_index.proofs.Rooting.{root_stands, becomes, root_free, root_there}
use Rattle.tree_index.proofs.Shares.{beside_used, others_kept, start_after, after_first}
use Rattle.tree_index.proofs.Subtrees.{pages_split, top_there}

none_some : {n : ℕ} → None ≡ Some n → ⊥
none_some e = cc

some_is : {a b : ℕ} → Some a ≡ Some b → a ≡ b
some_is e = cc

no_cons : {A : Type 0} {x : A} {xs : List A} → x ∷ xs ≡ [] → ⊥
no_cons e = cc

-- ---- what the page over one child leads to

-- The one child is a tree with all entries, on all pages below.
pub record IsOver (m : PageMap) (size depth child : ℕ) (entries : List Entry) (parts : List ℕ) : Type 0 where
  pub deep : ℕ
  pub tree : Tree deep
  pub near : suc deep ≡ depth
  pub at : top deep tree ≡ child
  pub lies : Lies m size deep tree
  pub entries_are : entries_of deep tree ≡ entries
  pub pages_are : pages_of deep tree ≡ parts

module _ (m : PageMap) (size child : ℕ) where
  alone_top : (depth : ℕ) (pieces : List Piece) (page : List ℕ) (kids : List (Tree depth × Held)) (last : Tree depth) → pieces ≡ []
      → Pairwise (IsTop m size depth) (map (λ (piece : Piece). piece.page.items) pieces ++ page ∷ []) (all_of kids last) → (kids ≡ []) × IsTop m size depth page last
  alone_top depth [] page [] last none tops = (refl, tops.0)
  alone_top depth [] page (kid ∷ []) last none tops = absurd tops.1
  alone_top depth [] page (kid ∷ other ∷ kids) last none tops = absurd tops.1
  alone_top depth (piece ∷ pieces) page kids last none tops = absurd (no_cons none)

  no_said : (depth : ℕ) (said : List (ℕ × Local)) (kids : List (Tree depth × Held)) → length said ≡ 0 → Pairwise (IsKidAs m size) said (children (top depth) kids) → kids ≡ []
  no_said depth [] [] none pair = refl
  no_said depth [] (kid ∷ kids) none pair = absurd pair
  no_said depth (it ∷ said) kids none pair = absurd (omega (arith, none))

  over_one : (depth : ℕ) (page : List ℕ) (last : Tree depth) → IsTop m size depth page last → ((node : Node) → IsNode page 0 node → (count_of node ≡ 0) × (last_of node ≡ Some child))
      → IsOver m size depth child (entries_of depth last) (below_of depth last)
  over_one zero page last is bare =
      absurd (none_some (sym (ap last_of is.shows.1) ∙ (bare is.node is.says).1))
  over_one (suc depth) page last is bare =
      let said = is.shows.0 in
      let told = bare is.node is.says in
      let few : length said ≡ 0 = sym (ap count_of is.shows.1) ∙ told.0 in
      let none = no_said depth said last.kids few is.shows.2 in
      let at : top depth last.last ≡ child = some_is (sym (ap last_of is.shows.1) ∙ told.1) in
      record {
        deep = depth;
        tree = last.last;
        near = refl;
        at = at;
        lies = subst (λ (ks : List (Tree depth × Held)). Each (Lies m size depth) ks last.last) none is.shows.3;
        entries_are = sym (ap (λ (ks : List (Tree depth × Held)). each_of (entries_of depth) (λ (held : Held). held.entry ∷ []) ks last.last) none);
        pages_are = sym (ap (λ (ks : List (Tree depth × Held)). each_of (pages_of depth) (λ (held : Held). held.pages) ks last.last) none);
      }

  pub lone_over : (depth : ℕ) (packed : Packed) (kids : List (Tree depth × Held)) (last : Tree depth) → Pairwise (IsTop m size depth) (images packed) (all_of kids last) → IsLone packed child
      → IsOver m size depth child (entries_in depth kids last) (each_of (below_of depth) chain kids last)
  lone_over depth packed kids last tops lone =
      let a = alone_top depth packed.pieces.items packed.last.items kids last lone.alone tops in
      subst (λ (ks : List (Tree depth × Held)). IsOver m size depth child (entries_in depth ks last) (each_of (below_of depth) chain ks last)) (sym a.0)
      (over_one depth packed.last.items last a.1 lone.bare)

-- ---- what a tree's page shows

pub record IsShown (m : PageMap) (size depth : ℕ) (t : Tree depth) : Type 0 where
  pub node : Node
  pub says : Says m (top depth t) node
  pub shows : Shows m size depth t node

shown : (m : PageMap) (size depth : ℕ) (t : Tree depth) → Lies m size depth t → IsShown m size depth t
shown m size zero t lies = record { node = Entries lies.said; says = lies.says; shows = (lies.said, refl, lies.entries) }
shown m size (suc depth) t lies = record { node = Between lies.0.said (top depth t.last); says = lies.0.says; shows = (lies.0.said, refl, lies.0.children, lies.1) }

-- ---- a root

module _ (old : PageMap) (size root : ℕ) (columns : List Collation) (entries : List Entry) (used free : List ℕ) (is : Stands old size root columns entries used free) (mid : PageMap) (all : List Entry)
    (sorted : AreEntries columns all) (packed : Packed) (plan : IsPlanned old mid size is.tree.depth all (below_of is.tree.depth is.tree.tree) free packed) where
  abbrev depth : ℕ
  depth = is.tree.depth

  abbrev parts : List ℕ
  parts = each_of (below_of depth) chain plan.kids plan.last

  module _ (child : ℕ) (lone : IsLone packed child) where
    o : IsOver mid size depth child (entries_in depth plan.kids plan.last) parts
    o = lone_over mid size child depth packed plan.kids plan.last plan.tops lone

    far : 1 < root
    far = number_far old size root 19 depth is.tree.tree free (root_stands old size root columns entries used free is)

    once : (n : ℕ) → occurs n (root ∷ parts) + occurs n plan.now_free ≤ 1
    once = planned_once old mid size root 19 depth is.tree.tree free (root_stands old size root columns entries used free is) all packed plan

    pages_two : (n : ℕ) → occurs n parts ≡ occurs n (child ∷ below_of o.deep o.tree)
    pages_two n = (let e = ap (occurs n) o.pages_are in let f = ap (occurs n) (pages_split o.deep o.tree) in let h = ap (λ (k : ℕ). occurs n (k ∷ below_of o.deep o.tree)) o.at in omega (arith, e, f, h))

    not_first : occurs 1 parts ≡ 0
    not_first = (planned_after old mid size root 19 depth is.tree.tree free (root_stands old size root columns entries used free is) all packed plan).first

    far_child : 1 < child
    far_child = subst (λ (n : ℕ). 1 < n) o.at (after_first mid (top o.deep o.tree) (below_of o.deep o.tree) (top_there mid size o.deep o.tree o.lies)
        (let none = not_first in let e = ap (occurs 1) o.pages_are in let f = ap (occurs 1) (pages_split o.deep o.tree) in omega (arith, none, e, f)))

    are_apart : AreApart mid plan.now_free root child
    are_apart = record {
      first = root_there old size root columns entries used free is mid all sorted packed plan;
      second = subst (λ (n : ℕ). Has mid n) o.at (top_there mid size o.deep o.tree o.lies);
      after_first = far;
      after_second = far_child;
      once = λ n. (let one = once n in let p = pages_two n in let a = occurs_append n (root ∷ []) (child ∷ []) in let b = occurs_append n (root ∷ []) parts in
          let c = occurs_append n (child ∷ []) (below_of o.deep o.tree) in omega (arith, one, p, a, b, c));
    }

    module _ (new : PageMap) (taken : IsTakenOver mid new size plan.now_free root child) where
      kept : AreKept mid new size (below_of o.deep o.tree)
      kept = others_kept mid new size (root ∷ child ∷ []) plan.now_free (root ∷ []) taken.now_free (below_of o.deep o.tree)
          (root_free old size root columns entries used free is mid all sorted packed plan).whole taken.moves
          (λ n some. (let one = once n in let p = pages_two n in let a = occurs_append n (root ∷ []) (child ∷ []) in let b = occurs_append n (root ∷ []) parts in
          let c = occurs_append n (child ∷ []) (below_of o.deep o.tree) in omega (arith, one, p, a, b, c, some)))

      s : IsShown mid size o.deep o.tree
      s = shown mid size o.deep o.tree o.lies

      says_new : Says new root s.node
      says_new =
          let there = root_there old size root columns entries used free is mid all sorted packed plan in
          record {
            has = record { first = there.first; last = (let last = there.last in let longer = (taken.moves).longer in omega (arith, last, longer)) };
            node_is = subst (λ (n : ℕ). IsNode (page_at new root) n s.node) (sym (start_after root far)) (subst (λ (bytes : List ℕ). IsNode bytes 0 s.node) (sym taken.is)
                (subst (λ (n : ℕ). IsNode (page_at mid child) n s.node) (start_after child far_child) (subst (λ (k : ℕ). Says mid k s.node) o.at s.says).node_is));
          }

      pub lowered : BecomesEntries old new size root columns all used free
      lowered =
          let t = moved_to o.deep root o.tree in
          let near = o.near in
          let shallow = is.tree.shallow in
          let first = moves_top old mid size root 19 depth is.tree.tree free (root_stands old size root columns entries used free is) all packed plan in
          let second = beside_used mid new (root ∷ child ∷ []) plan.now_free (root ∷ []) taken.now_free (below_of o.deep o.tree) (root ∷ parts) (pages_of o.deep t) taken.moves
          (λ n. (let p = pages_two n in let a = occurs_append n (root ∷ []) (child ∷ []) in let b = occurs_append n (root ∷ []) parts in let c = occurs_append n (child ∷ []) (below_of o.deep o.tree) in omega (arith, p, a, b, c)))
          (λ n. (let e = ap (occurs n) (pages_moved o.deep root o.tree) in let f = occurs_append n (root ∷ []) (below_of o.deep o.tree) in omega (arith, e, f))) in
          becomes old size root columns entries used free is new o.deep t all taken.now_free (omega (arith, near, shallow)) (top_moved o.deep root o.tree)
          (lies_moved new size o.deep root o.tree s.node (shows_kept mid new size o.deep o.tree s.node kept s.shows) says_new)
          (entries_moved o.deep root o.tree ∙ o.entries_are ∙ plan.entries_are) sorted taken.has
          (subst (λ (was : List ℕ). Moves old new was free (pages_of o.deep t) taken.now_free) (sym (top_and_below old size root 19 depth is.tree.tree free (root_stands old size root columns entries used free is)))
          (in_sequence old mid new (root ∷ below_of depth is.tree.tree) free (root ∷ parts) plan.now_free (pages_of o.deep t) taken.now_free first second))
          (keeps_then old mid new plan.header taken.header)

    -- the child's cells in its place
    pub settled_some : (new : PageMap) (result : Result ⊤ Fault) → TakesOver mid new size root child result → MatchResult result (λ done. BecomesEntries old new size root columns all used free) IsOutsideOrFull
    settled_some new result takes = by result (takes plan.now_free (root_free old size root columns entries used free is mid all sorted packed plan) are_apart)
      where
        by : (result : Result ⊤ Fault) → MatchResult result (λ done. IsTakenOver mid new size plan.now_free root child) IsOutside
            → MatchResult result (λ done. BecomesEntries old new size root columns all used free) IsOutsideOrFull
        by (Ok done) taken = lowered new taken
        by (Err fault) outside = inl outside
