-- The check of the trees under an interior page.
use Rattle.std.proofs.Common.{◌≡◌, ◌-◌, ◌≤◌, ◌<◌, ℕ, suc, ℤ, Bool, List, [], ◌∷◌, length, take, drop, slice_index_or, refl, sym, ap, subst, ◌∙◌, arith, Ok, Err}
use Rattle.std.specs.Prelude.{⊤, Result, IsErrAnd}
use Rattle.sqlval.specs.declared.fault.Fault.{Fault}
use Rattle.pages.specs.Counting.{occurs, start_of}
use Rattle.pages.specs.Map.{PageMap, Has, page_at}
use Rattle.tree_page.specs.Node.{Node, Rows, Keys, Entries, Between, IsNode}
use Rattle.tree_page.specs.declared.items.Key.{Key}
use Rattle.tree_page.proofs.OneThing.{says_one}
use Rattle.tree_store.specs.Sides.{Side, Parted, children}
use Rattle.tree_table.specs.Tree.{Tree, top, pages_of, IsSorted}
use Rattle.tree_check.specs.Exact.{Checks, IsThisPage, alone}
use Rattle.tree_check.specs.Subtrees.{IsSubtree, AreSubtrees, ReadsBranch, keys_in, pages_beside}
use Rattle.tree_check.proofs.LeafChecks.{says_at}
use Rattle.tree_check.proofs.Parting.{IsBoth, IsOf, IsAs, both_appended, first_refused, refused, then_checks, checks_as}
use Rattle.tree_check.proofs.TailChains.{all_taken}

-- ---- the page above

said_kids : Node → List (ℕ × ℤ)
said_kids (Rows rows) = []
said_kids (Keys kids last) = kids
said_kids (Entries entries) = []
said_kids (Between kids last) = []

said_last : Node → ℕ
said_last (Rows rows) = 0
said_last (Keys kids last) = last
said_last (Entries entries) = 0
said_last (Between kids last) = last

-- what two readings of an interior page say is one
one_branch : (page : List ℕ) (start : ℕ) (a b : List (ℕ × ℤ)) (last also : ℕ) → IsNode page start (Keys a last) → IsNode page start (Keys b also) → (a ≡ b) × (last ≡ also)
unfolding said_kids said_last
one_branch page start a b last also is other =
    (let same = says_one page start (Keys a last) (Keys b also) is other in (ap said_kids same, ap said_last same))

module _ (map : PageMap) (size page depth : ℕ) (low high : ℤ) (kids : List (ℕ × ℤ)) (last : ℕ) (node : IsNode (page_at map page) (start_of page) (Keys kids last)) where
  apart : (t : Tree (suc depth)) → IsSubtree map size page (suc depth) low high t
      → IsBoth (IsThisPage map page) (AreSubtrees map size kids last depth low high) alone (pages_beside depth) (pages_of (suc depth) t)
  apart t is =
      let says = says_at map t.page page (Keys (children (top depth) t.kids) (top depth t.last)) is.top_is is.lies.0 in
      let same = one_branch (page_at map page) (start_of page) (children (top depth) t.kids) kids (top depth t.last) last says.node_is node in
      record {
        one = page;
        other = (t.kids, t.last);
        is = record { is = refl; has = says.has };
        also = record { kids_are = same.0; last_is = same.1; lies = is.lies.1; sorted = is.sorted };
        both = λ n. let e = ap (λ (q : ℕ). occurs n (alone q)) is.top_is in omega (arith, e);
      }

  together : (number : ℕ) (side : Side (Tree depth) ℤ) → IsThisPage map page number → AreSubtrees map size kids last depth low high side
      → IsOf (IsSubtree map size page (suc depth) low high) (pages_of (suc depth)) (alone number) (pages_beside depth side)
  together number side is on = record {
    it = record { page = page; kids = side.0; last = side.1 };
    is = record {
      top_is = refl;
      lies = (
        record {
          has = subst (Has map) is.is is.has;
          node_is = subst (λ (l : List (ℕ × ℤ)). IsNode (page_at map page) (start_of page) (Keys l (top depth side.1))) (sym on.kids_are)
              (subst (λ (n : ℕ). IsNode (page_at map page) (start_of page) (Keys kids n)) (sym on.last_is) node);
        },
        on.lies,
      );
      sorted = on.sorted;
    };
    both = λ n. let e = ap (λ (q : ℕ). occurs n (alone q)) is.is in omega (arith, e);
  }

-- an interior page that was marked is checked as its children are
pub page_checks : (map : PageMap) (size page depth : ℕ) (low high : ℤ) (kids : List (ℕ × ℤ)) (last : ℕ) (old mid new : List Bool) (result : Result ⊤ Fault) → 1 ≤ depth
    → Checks (IsThisPage map page) alone old mid (Ok tt) → IsNode (page_at map page) (start_of page) (Keys kids last)
    → Checks (AreSubtrees map size kids last (depth - 1) low high) (pages_beside (depth - 1)) mid new result → Checks (IsSubtree map size page depth low high) (pages_of depth) old new result
page_checks map size page depth low high kids last old mid new result some marked node below =
    let same : suc (depth - 1) ≡ depth = omega (arith, some) in
    subst (λ (d : ℕ). Checks (IsSubtree map size page d low high) (pages_of d) old new result) same
    (then_checks (IsThisPage map page) (AreSubtrees map size kids last (depth - 1) low high) (IsSubtree map size page (suc (depth - 1)) low high) alone (pages_beside (depth - 1)) (pages_of (suc (depth - 1)))
    (apart map size page (depth - 1) low high kids last node) (together map size page (depth - 1) low high kids last node) old mid new result marked below)

-- an interior page isn't read
pub page_refused : (map : PageMap) (size page depth : ℕ) (low high : ℤ) (old new : List Bool) (fault : Fault) (result : Result ⊤ Fault) → 1 ≤ depth → ReadsBranch map page (Err fault) → IsErrAnd result (λ e. e ≡ fault)
    → Checks (IsSubtree map size page depth low high) (pages_of depth) old new result
page_refused map size page depth low high old new fault result some reads is =
    let same : suc (depth - 1) ≡ depth = omega (arith, some) in
    subst (λ (d : ℕ). Checks (IsSubtree map size page d low high) (pages_of d) old new result) same
    (refused (IsSubtree map size page (suc (depth - 1)) low high) (pages_of (suc (depth - 1))) old new fault result is
    (λ t under free. reads (children (top (depth - 1)) t.kids) (top (depth - 1) t.last)
    (says_at map t.page page (Keys (children (top (depth - 1)) t.kids) (top (depth - 1) t.last)) under.top_is under.lies.0)))

-- ---- one child after the other

module _ (map : PageMap) (size child : ℕ) (key : ℤ) (kids : List (ℕ × ℤ)) (last depth : ℕ) (low high : ℤ) where
  kid_apart : (parts : List (Tree depth × ℤ)) (end : Tree depth) → AreSubtrees map size ((child, key) ∷ kids) last depth low high (parts, end)
      → IsBoth (IsSubtree map size child depth low key) (AreSubtrees map size kids last depth key high) (pages_of depth) (pages_beside depth) (pages_beside depth (parts, end))
  kid_apart [] end are = absurd (let none = ap length are.kids_are in omega (arith, none))
  kid_apart (part ∷ parts) end are =
      let first : top depth part.0 ≡ child = ap (λ (l : List (ℕ × ℤ)). (slice_index_or l 0 (0, low)).0) are.kids_are in
      let key_is : part.1 ≡ key = ap (λ (l : List (ℕ × ℤ)). (slice_index_or l 0 (0, low)).1) are.kids_are in
      record {
        one = part.0;
        other = (parts, end);
        is = record { top_is = first; lies = are.lies.0; sorted = subst (λ (z : ℤ). IsSorted depth low part.0 z) key_is are.sorted.0 };
        also = record {
          kids_are = ap (drop 1) are.kids_are;
          last_is = are.last_is;
          lies = are.lies.1;
          sorted = subst (λ (z : ℤ). Parted (IsSorted depth) z parts end high) key_is are.sorted.1;
        };
        both = both_appended (pages_of depth part.0) (pages_beside depth (parts, end));
      }

  kid_together : (t : Tree depth) (side : Side (Tree depth) ℤ) → IsSubtree map size child depth low key t → AreSubtrees map size kids last depth key high side
      → IsOf (AreSubtrees map size ((child, key) ∷ kids) last depth low high) (pages_beside depth) (pages_of depth t) (pages_beside depth side)
  kid_together t side is are = record {
    it = ((t, key) ∷ side.0, side.1);
    is = record {
      kids_are = ap (λ (n : ℕ). (n, key) ∷ children (top depth) side.0) is.top_is ∙ ap (λ (l : List (ℕ × ℤ)). (child, key) ∷ l) are.kids_are;
      last_is = are.last_is;
      lies = (is.lies, are.lies);
      sorted = (is.sorted, are.sorted);
    };
    both = both_appended (pages_of depth t) (pages_beside depth side);
  }

-- what the children after the first decide
pub kid_then : (map : PageMap) (size : ℕ) (rest : List Key) (d : Key) (key : ℤ) (last depth : ℕ) (low high : ℤ) (old mid : List Bool) → 1 ≤ length rest → key ≡ (slice_index_or rest 0 d).rowid
    → Checks (IsSubtree map size (slice_index_or rest 0 d).child depth low key) (pages_of depth) old mid (Ok tt) → (new : List Bool) (result : Result ⊤ Fault)
    → Checks (AreSubtrees map size (keys_in (take (length rest - 1) (drop 1 rest))) last depth key high) (pages_beside depth) mid new result
    → Checks (AreSubtrees map size (keys_in rest) last depth low high) (pages_beside depth) old new result
kid_then map size [] d key last depth low high old mid some key_is first new result then = absurd (omega (arith, some))
kid_then map size (kid ∷ kids) d key last depth low high old mid some key_is first new result then =
    subst (λ (z : ℤ). Checks (AreSubtrees map size ((kid.child, z) ∷ keys_in kids) last depth low high) (pages_beside depth) old new result) key_is
    (then_checks (IsSubtree map size kid.child depth low key) (AreSubtrees map size (keys_in kids) last depth key high) (AreSubtrees map size ((kid.child, key) ∷ keys_in kids) last depth low high)
    (pages_of depth) (pages_beside depth) (pages_beside depth) (λ side. kid_apart map size kid.child key (keys_in kids) last depth low high side.0 side.1)
    (kid_together map size kid.child key (keys_in kids) last depth low high) old mid new result first
    (subst (λ (them : List Key). Checks (AreSubtrees map size (keys_in them) last depth key high) (pages_beside depth) mid new result) (all_taken kids) then))

-- the first child is refused
pub kid_stops : (map : PageMap) (size : ℕ) (rest : List Key) (d : Key) (key : ℤ) (last depth : ℕ) (low high : ℤ) (old mid new : List Bool) (fault : Fault) (result : Result ⊤ Fault) → 1 ≤ length rest
    → key ≡ (slice_index_or rest 0 d).rowid → Checks (IsSubtree map size (slice_index_or rest 0 d).child depth low key) (pages_of depth) old mid (Err fault) → IsErrAnd result (λ e. e ≡ fault)
    → Checks (AreSubtrees map size (keys_in rest) last depth low high) (pages_beside depth) old new result
kid_stops map size [] d key last depth low high old mid new fault result some key_is first is = absurd (omega (arith, some))
kid_stops map size (kid ∷ kids) d key last depth low high old mid new fault result some key_is first is =
    subst (λ (z : ℤ). Checks (AreSubtrees map size ((kid.child, z) ∷ keys_in kids) last depth low high) (pages_beside depth) old new result) key_is
    (first_refused (IsSubtree map size kid.child depth low key) (AreSubtrees map size (keys_in kids) last depth key high) (AreSubtrees map size ((kid.child, key) ∷ keys_in kids) last depth low high)
    (pages_of depth) (pages_beside depth) (pages_beside depth) (λ side. kid_apart map size kid.child key (keys_in kids) last depth low high side.0 side.1) old mid new fault result first is)

-- only the last child is left
pub last_checks : (map : PageMap) (size : ℕ) (rest : List Key) (last depth : ℕ) (low high : ℤ) (old new : List Bool) (result : Result ⊤ Fault) → length rest < 1
    → Checks (IsSubtree map size last depth low high) (pages_of depth) old new result → Checks (AreSubtrees map size (keys_in rest) last depth low high) (pages_beside depth) old new result
last_checks map size [] last depth low high old new result none check =
    checks_as (IsSubtree map size last depth low high) (AreSubtrees map size [] last depth low high) (pages_of depth) (pages_beside depth)
    (λ t is. record { it = ([], t); is = record { kids_are = refl; last_is = is.top_is; lies = is.lies; sorted = is.sorted }; as_often = λ n. refl })
    (λ side are. by side.0 side.1 are) old new result check
  where
    by : (parts : List (Tree depth × ℤ)) (end : Tree depth) → AreSubtrees map size [] last depth low high (parts, end) → IsAs (IsSubtree map size last depth low high) (pages_of depth) (pages_beside depth (parts, end))
    by [] end are = record { it = end; is = record { top_is = are.last_is; lies = are.lies; sorted = are.sorted }; as_often = λ n. refl }
    by (part ∷ parts) end are = absurd (let none = ap length are.kids_are in omega (arith, none))
last_checks map size (kid ∷ rest) last depth low high old new result none check = absurd (omega (arith, none))
