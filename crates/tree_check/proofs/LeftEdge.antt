-- The way down the left edge of a tree.
use Rattle.std.proofs.Common.{◌≡◌, ◌+◌, ◌<◌, ℕ, zero, suc, ℤ, Bool, List, [], ◌∷◌, refl, sym, ap, subst, ◌∙◌, arith, Ok, Err, Some, None, Option}
use Rattle.std.specs.Prelude.{Result, IsErrAnd, MatchResult}
use Rattle.sqlval.specs.declared.fault.Fault.{Fault}
use Rattle.sqlval.specs.Faults.{IsOutside}
use Rattle.pages.specs.Calls.{Limits, Stays}
use Rattle.pages.specs.Map.{PageMap, AreWhole}
use Rattle.tree_page.specs.Cells.{Pairwise}
use Rattle.tree_page.specs.Node.{Local, Rows, Keys, Entries, Between}
use Rattle.tree_overflow.proofs.ReadChains.{unrefused}
use Rattle.tree_store.specs.Saying.{Says}
use Rattle.tree_store.specs.Sides.{Each, children}
use Rattle.tree_table.specs.Tree.{Tree, top, Lies}
use Rattle.tree_index.specs.Tree.{Held, IsKidAs, Tree as IndexTree, top as index_top, Lies as IndexLies}
use Rattle.tree_check.specs.Exact.{AreTold}
use Rattle.tree_check.specs.Subtrees.{FindsLeft, IsLeftEdge}

-- After so many pages down a left edge, the rest of it begins at this page.
pub record IsOnEdge (map : PageMap) (page depth gone : ℕ) : Type 0 where
  pub rest : ℕ
  pub depth_is : depth ≡ gone + rest
  pub edge : IsLeftEdge map page rest

-- What holds after so many pages down the left edge.
pub record HasGone {P K : Type 0} (below : P → K) (tells : K → Bool) (limits : K → Limits) (bytes : P → PageMap) (count : P → ℕ) (failures : P → ℕ × ℕ) (start now : P) (root page gone : ℕ) : Type 0 where
  pub stays : Stays below bytes count failures unrefused start now
  pub edge : (map : PageMap) (size : ℕ) → AreTold below tells limits bytes start map size → AreWhole size map
      → (depth : ℕ) → depth < 20 → IsLeftEdge map root depth → IsOnEdge map page depth gone

-- nothing was gone yet
pub at_root : (map : PageMap) (root depth : ℕ) → IsLeftEdge map root depth → IsOnEdge map root depth 0
at_root map root depth edge = record { rest = depth; depth_is = omega arith; edge = edge }

abbrev child_or : ℕ → Option ℕ → ℕ
child_or d (Some x) = x
child_or d None = d

-- the edge goes on
pub edge_on : (map : PageMap) (page depth gone child : ℕ) → IsOnEdge map page depth gone → FindsLeft map page (Ok (Some child)) → IsOnEdge map child depth (gone + 1)
edge_on map page depth gone child on finds = by on.rest on.depth_is on.edge
  where
    by : (rest : ℕ) → depth ≡ gone + rest → IsLeftEdge map page rest → IsOnEdge map child depth (gone + 1)
    by zero count edge = absurd (let e : Some child ≡ None = finds edge.0 edge.1 ∙ edge.2 in cc)
    by (suc rest) count edge = record {
      rest = rest;
      depth_is = omega (arith, count);
      edge = (let e : edge.1 ≡ child = sym (ap (child_or 0) (finds edge.0 edge.2 ∙ edge.3)) in subst (λ (n : ℕ). IsLeftEdge map n rest) e edge.4);
    }

-- the edge ends at a leaf
pub edge_ends : (map : PageMap) (page depth gone : ℕ) → IsOnEdge map page depth gone → FindsLeft map page (Ok None) → gone ≡ depth
edge_ends map page depth gone on finds = by on.rest on.depth_is on.edge
  where
    by : (rest : ℕ) → depth ≡ gone + rest → IsLeftEdge map page rest → gone ≡ depth
    by zero count edge = omega (arith, count)
    by (suc rest) count edge = absurd (let e : None ≡ Some edge.1 = finds edge.0 edge.2 ∙ edge.3 in cc)

-- a page of the edge isn't read
pub edge_stops : (map : PageMap) (page depth gone : ℕ) (fault : Fault) (result : Result ℕ Fault) → IsOnEdge map page depth gone → FindsLeft map page (Err fault) → IsErrAnd result (λ e. e ≡ fault)
    → MatchResult result (λ d. d ≡ depth) IsOutside
edge_stops map page depth gone fault (Ok d) on finds is = absurd is
edge_stops map page depth gone fault (Err e) on finds is = by on.rest on.edge
  where
    by : (rest : ℕ) → IsLeftEdge map page rest → IsOutside e
    by zero edge = subst IsOutside (sym is) (finds edge.0 edge.1)
    by (suc rest) edge = subst IsOutside (sym is) (finds edge.0 edge.2)

-- ---- of a table's tree

table_edge_by : (map : PageMap) (size page depth : ℕ) → ((t : Tree depth) → Lies map size depth t → IsLeftEdge map (top depth t) depth) → (number : ℕ) → number ≡ page
    → (kids : List (Tree depth × ℤ)) (last : Tree depth) → Says map number (Keys (children (top depth) kids) (top depth last)) → Each (Lies map size depth) kids last → IsLeftEdge map page (suc depth)
table_edge_by map size page depth below number is [] last says each = (Keys [] (top depth last), top depth last, subst (λ (n : ℕ). Says map n (Keys [] (top depth last))) is says, refl, below last each)
table_edge_by map size page depth below number is (kid ∷ kids) last says each = (
  Keys ((top depth kid.0, kid.1) ∷ children (top depth) kids) (top depth last),
  top depth kid.0,
  subst (λ (n : ℕ). Says map n (Keys ((top depth kid.0, kid.1) ∷ children (top depth) kids) (top depth last))) is says,
  refl,
  below kid.0 each.0,
)

pub table_edge : (map : PageMap) (size page depth : ℕ) (t : Tree depth) → top depth t ≡ page → Lies map size depth t → IsLeftEdge map page depth
table_edge map size page zero t top_is lies = (Rows lies.said, subst (λ (n : ℕ). Says map n (Rows lies.said)) top_is lies.says, refl)
table_edge map size page (suc depth) t top_is lies =
    table_edge_by map size page depth (λ below on. table_edge map size (top depth below) depth below refl on) t.page top_is t.kids t.last lies.0 lies.1

-- ---- of an index's tree

index_edge_by : (map : PageMap) (size page depth : ℕ) → ((t : IndexTree depth) → IndexLies map size depth t → IsLeftEdge map (index_top depth t) depth) → (number : ℕ) → number ≡ page
    → (said : List (ℕ × Local)) (kids : List (IndexTree depth × Held)) (last : IndexTree depth) → Says map number (Between said (index_top depth last)) → Pairwise (IsKidAs map size) said (children (index_top depth) kids)
    → Each (IndexLies map size depth) kids last → IsLeftEdge map page (suc depth)
index_edge_by map size page depth below number is [] [] last says all each =
    (Between [] (index_top depth last), index_top depth last, subst (λ (n : ℕ). Says map n (Between [] (index_top depth last))) is says, refl, below last each)
index_edge_by map size page depth below number is [] (kid ∷ kids) last says all each = absurd all
index_edge_by map size page depth below number is (one ∷ said) [] last says all each = absurd all
index_edge_by map size page depth below number is (one ∷ said) (kid ∷ kids) last says all each = (
  Between (one ∷ said) (index_top depth last),
  one.0,
  subst (λ (n : ℕ). Says map n (Between (one ∷ said) (index_top depth last))) is says,
  refl,
  subst (λ (n : ℕ). IsLeftEdge map n depth) (sym all.0.0) (below kid.0 each.0),
)

pub index_edge : (map : PageMap) (size page depth : ℕ) (t : IndexTree depth) → index_top depth t ≡ page → IndexLies map size depth t → IsLeftEdge map page depth
index_edge map size page zero t top_is lies = (Entries lies.said, subst (λ (n : ℕ). Says map n (Entries lies.said)) top_is lies.says, refl)
index_edge map size page (suc depth) t top_is lies =
    index_edge_by map size page depth (λ below on. index_edge map size (index_top depth below) depth below refl on) t.page top_is lies.0.said t.kids t.last lies.0.says lies.0.children lies.1
