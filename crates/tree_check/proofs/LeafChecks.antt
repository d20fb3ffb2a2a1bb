-- The check of a leaf.
use Rattle.std.proofs.Common.{◌≡◌, ◌≤◌, ℕ, zero, suc, ℤ, Bool, List, [], length, refl, ap, subst, arith, Ok, Err}
use Rattle.std.specs.List.{flat_map}
use Rattle.std.specs.Prelude.{⊤, Result, IsErrAnd}
use Rattle.sqlval.specs.declared.fault.Fault.{Fault}
use Rattle.pages.specs.Counting.{occurs, start_of}
use Rattle.pages.specs.Map.{PageMap, Has, page_at}
use Rattle.tree_page.specs.Cells.{Pairwise}
use Rattle.tree_page.specs.Node.{Local, Node, Rows, Keys, Entries, Between, IsNode}
use Rattle.tree_page.proofs.OneThing.{says_one}
use Rattle.tree_store.specs.Saying.{Says}
use Rattle.tree_table.specs.Tree.{Leaf, IsHeldAs, Tree, pages_of}
use Rattle.tree_check.specs.Checks.{CanMark}
use Rattle.tree_check.specs.Exact.{Checks, IsThisPage, alone}
use Rattle.tree_check.specs.Marks.{AreUnmarked}
use Rattle.tree_check.specs.Subtrees.{IsSubtree, IsLeafWith, ReadsLeaf}
use Rattle.tree_check.specs.Tails.{Chain, IsTailOn, AreTails}
use Rattle.tree_check.specs.declared.chains.Tail.{Tail}
use Rattle.tree_check.proofs.Links.{large_size, pages_on}
use Rattle.tree_check.proofs.Parting.{IsBoth, IsOf, refused, then_checks}
use Rattle.tree_check.proofs.Payloads.{rows_chains, chains_rows, rises_as, rises_so}

-- what a tree's page tells stands on the page of its number
pub says_at : (map : PageMap) (number page : ℕ) (node : Node) → number ≡ page → Says map number node → Says map page node
says_at map number page node is says = subst (λ (n : ℕ). Says map n node) is says

said_rows : Node → List (ℤ × Local)
said_rows (Rows rows) = rows
said_rows (Keys kids last) = []
said_rows (Entries entries) = []
said_rows (Between kids last) = []

-- what two readings of a page say is one
one_said : (page : List ℕ) (start : ℕ) (a b : List (ℤ × Local)) → IsNode page start (Rows a) → IsNode page start (Rows b) → a ≡ b
unfolding said_rows
one_said page start a b is also = ap said_rows (says_one page start (Rows a) (Rows b) is also)

module _ (map : PageMap) (size page : ℕ) (low high : ℤ) (tails : List Tail) (leaf : IsLeafWith (page_at map page) (start_of page) low high tails) (large : 512 ≤ size) (sized : length (page_at map page) ≡ size) where
  tails_are : AreTails size leaf.said tails
  tails_are = subst (λ (n : ℕ). AreTails n leaf.said tails) sized leaf.tails_are

  apart : (t : Leaf) → IsSubtree map size page 0 low high t → IsBoth (IsThisPage map page) (Pairwise (IsTailOn map size) tails) alone (flat_map pages_on) (pages_of 0 t)
  apart t is =
      let says = says_at map t.page page (Rows is.lies.said) is.top_is is.lies.says in
      let same = one_said (page_at map page) (start_of page) is.lies.said leaf.said says.node_is leaf.node_is in
      let held = subst (λ (l : List (ℤ × Local)). Pairwise (IsHeldAs map size) l t.rows) same is.lies.rows in
      let on = rows_chains map size leaf.said t.rows tails large held tails_are in
      record {
        one = page;
        other = on.chains;
        is = record { is = refl; has = says.has };
        also = on.on;
        both = λ n. let e = ap (λ (q : ℕ). occurs n (alone q)) is.top_is in let f = on.as_often n in omega (arith, e, f);
      }

  together : (number : ℕ) (chains : List Chain) → IsThisPage map page number → Pairwise (IsTailOn map size) tails chains
      → IsOf (IsSubtree map size page 0 low high) (pages_of 0) (alone number) (flat_map pages_on chains)
  together number chains is on =
      let made = chains_rows map size leaf.said tails chains large tails_are on in
      record {
        it = record { page = page; rows = made.rows };
        is = record {
          top_is = refl;
          lies = record { said = leaf.said; says = record { has = subst (Has map) is.is is.has; node_is = leaf.node_is }; rows = made.are };
          sorted = rises_so map size low high leaf.said made.rows made.are leaf.rises;
        };
        both = λ n. let e = ap (λ (q : ℕ). occurs n (alone q)) is.is in let f = made.as_often n in omega (arith, e, f);
      }

-- a leaf whose page was marked is checked as its chains are
pub leaf_checks : (map : PageMap) (size page : ℕ) (low high : ℤ) (tails : List Tail) (old mid new : List Bool) (result : Result ⊤ Fault) → CanMark map size old
    → Checks (IsThisPage map page) alone old mid (Ok tt) → IsLeafWith (page_at map page) (start_of page) low high tails → Checks (Pairwise (IsTailOn map size) tails) (flat_map pages_on) mid new result
    → Checks (IsSubtree map size page 0 low high) (pages_of 0) old new result
leaf_checks map size page low high tails old mid new result can marked leaf chains =
    let large = (large_size size can.sized).0 in
    let sized = can.whole page (subst (Has map) marked.0.is.is marked.0.is.has) in
    then_checks (IsThisPage map page) (Pairwise (IsTailOn map size) tails) (IsSubtree map size page 0 low high) alone (flat_map pages_on) (pages_of 0)
    (apart map size page low high tails leaf large sized) (together map size page low high tails leaf large sized) old mid new result marked chains

-- the top of a tree is a page
pub top_page : (map : PageMap) (size page depth : ℕ) (low high : ℤ) (t : Tree depth) → IsSubtree map size page depth low high t → IsThisPage map page page
top_page map size page zero low high t is = record { is = refl; has = subst (Has map) is.top_is is.lies.says.has }
top_page map size page (suc depth) low high t is = record { is = refl; has = subst (Has map) is.top_is is.lies.0.has }

top_unmarked : (map : PageMap) (size page depth : ℕ) (low high : ℤ) (t : Tree depth) (old : List Bool) → IsSubtree map size page depth low high t → AreUnmarked old (pages_of depth t) → AreUnmarked old (alone page)
top_unmarked map size page zero low high t old is free n = (let e = ap (λ (q : ℕ). occurs n (alone q)) is.top_is in let u = free n in omega (arith, e, u))
top_unmarked map size page (suc depth) low high t old is free n = (let e = ap (λ (q : ℕ). occurs n (alone q)) is.top_is in let u = free n in omega (arith, e, u))

-- the page of a tree isn't marked
pub top_refused : (map : PageMap) (size page depth : ℕ) (low high : ℤ) (old mid new : List Bool) (fault : Fault) (result : Result ⊤ Fault) → Checks (IsThisPage map page) alone old mid (Err fault)
    → IsErrAnd result (λ e. e ≡ fault) → Checks (IsSubtree map size page depth low high) (pages_of depth) old new result
top_refused map size page depth low high old mid new fault result check is =
    refused (IsSubtree map size page depth low high) (pages_of depth) old new fault result is
    (λ t under free. check page (top_page map size page depth low high t under) (top_unmarked map size page depth low high t old under free))

-- a leaf isn't read
pub leaf_refused : {X : Type 0} (view : X → List Tail) (map : PageMap) (size page : ℕ) (low high : ℤ) (old new : List Bool) (fault : Fault) (result : Result ⊤ Fault) → ReadsLeaf view map page low high (Err fault)
    → IsErrAnd result (λ e. e ≡ fault) → Checks (IsSubtree map size page 0 low high) (pages_of 0) old new result
leaf_refused view map size page low high old new fault result reads is =
    refused (IsSubtree map size page 0 low high) (pages_of 0) old new fault result is
    (λ t under free. reads under.lies.said (says_at map t.page page (Rows under.lies.said) under.top_is under.lies.says) (rises_as map size low high under.lies.said t.rows under.lies.rows under.sorted))

-- what holds between two bounds holds between those that are equal to them
pub bounded : (P : ℤ → ℤ → Type 0) (a b low high : ℤ) → a ≡ low → b ≡ high → P a b → P low high
bounded P a b low high e f h = subst (λ (z : ℤ). P z high) e (subst (λ (z : ℤ). P a z) f h)
