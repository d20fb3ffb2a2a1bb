-- What is free and used after pages moved.
use Rattle.std.proofs.Common.{◌≡◌, ◌≤◌, ◌<◌, ◌+◌, ◌-◌, ℕ, zero, suc, ℤ, List, [], ◌∷◌, ◌++◌, length, drop, refl, ap, inl, inr, arith}
use Rattle.std.proofs.lemmas.Grind.{common_steps}
use Rattle.std.proofs.lemmas.Bool.{cases_lt}
use Rattle.std.specs.List.{flat_map}
use Rattle.pages.specs.Counting.{occurs, fresh, Moves}
use Rattle.pages.specs.Laws.{IsJoined}
use Rattle.pages.specs.Map.{PageMap, Has}
use Rattle.pages.proofs.Moving.{occurs_append, not_fresh}
use Rattle.tree_page.specs.Cells.{Pairwise}
use Rattle.tree_page.specs.Node.{Local}
use Rattle.tree_overflow.specs.Chains.{IsChain}
use Rattle.tree_overflow.proofs.Laying.{free_there}
use Rattle.freelist.specs.Calls.{AreFree, HasFree}
use Rattle.freelist.proofs.Taken.{one_there}
use Rattle.tree_store.specs.Sides.{Each}
use Rattle.tree_table.specs.Growing.{below_of}
use Rattle.tree_table.specs.Tree.{Held, IsHeldAs, Tree, top, pages_of, Lies}
use Rattle.tree_table.proofs.Holes.{Kids, pages_in}
use Rattle.tree_table.proofs.Planting.{pages_split}
use Rattle.tree_table.proofs.Staying.{AreSeen}

-- ---- the pages of a tree are there

here_or_later : (n x : ℕ) (xs : List ℕ) → 1 ≤ occurs n (x ∷ xs) → (x ≡ n → ⊥) → 1 ≤ occurs n xs
here_or_later n x xs some other = grind (arith, common_steps)

-- each page of a list is at most this
abbrev pub AreUpTo : ℕ → List ℕ → Type 0
AreUpTo most pages = (n : ℕ) → 1 ≤ occurs n pages → n ≤ most

pub up_cons : (most x : ℕ) (xs : List ℕ) → x ≤ most → AreUpTo most xs → AreUpTo most (x ∷ xs)
up_cons most x xs le up n some = elim (cases_lt most n) [
  | inl lt ↦ up n (here_or_later n x xs some (λ same. omega (arith, lt, le, same)))
  | inr ge ↦ omega (arith, ge)
]

up_append : (most : ℕ) (xs ys : List ℕ) → AreUpTo most xs → AreUpTo most ys → AreUpTo most (xs ++ ys)
up_append most xs ys a b n some = elim (cases_lt 0 (occurs n xs)) [
  | inl lt ↦ a n lt
  | inr ge ↦ b n (let e = occurs_append n xs ys in omega (arith, e, some, ge))
]

pub up_none : (most : ℕ) → AreUpTo most []
up_none most n some = absurd (omega (arith, some))

pub chain_up : (map' : PageMap) (usable : ℕ) (bytes chain : List ℕ) → IsChain map' usable bytes chain → AreUpTo (length map') chain
chain_up map' usable bytes [] h = up_none (length map')
chain_up map' usable bytes (page ∷ chain) h = up_cons (length map') page chain h.0.has.last (chain_up map' usable (drop (usable - 4) bytes) chain h.1)

rows_up : (map' : PageMap) (usable : ℕ) (said : List (ℤ × Local)) (rows : List Held) → Pairwise (IsHeldAs map' usable) said rows → AreUpTo (length map') (flat_map (λ (held : Held). held.pages) rows)
rows_up map' usable [] [] h = up_none (length map')
rows_up map' usable [] (held ∷ rows) h = absurd h
rows_up map' usable (row ∷ said) [] h = up_none (length map')
rows_up map' usable (row ∷ said) (held ∷ rows) h =
    up_append (length map') held.pages (flat_map (λ (held : Held). held.pages) rows) (chain_up map' usable _ held.pages h.0.payload.chain) (rows_up map' usable said rows h.1)

pub each_up : (depth most : ℕ) (P : Tree depth → Type 0) → ((u : Tree depth) → P u → AreUpTo most (pages_of depth u)) → (kids : Kids depth) (last : Tree depth) → Each P kids last → AreUpTo most (pages_in depth kids last)
each_up depth most P go [] last h = go last h
each_up depth most P go (kid ∷ kids) last h = up_append most (pages_of depth kid.0) (pages_in depth kids last) (go kid.0 h.0) (each_up depth most P go kids last h.1)

pub top_there : (map' : PageMap) (size depth : ℕ) (t : Tree depth) → Lies map' size depth t → Has map' (top depth t)
top_there map' size zero t lies = lies.says.has
top_there map' size (suc depth) t lies = lies.0.has

pub tree_up : (map' : PageMap) (size depth : ℕ) (t : Tree depth) → Lies map' size depth t → AreUpTo (length map') (pages_of depth t)
tree_up map' size zero t lies = up_cons (length map') t.page (below_of zero t) lies.says.has.last (rows_up map' size lies.said t.rows lies.rows)
tree_up map' size (suc depth) t lies =
    up_cons (length map') t.page (below_of (suc depth) t) lies.0.has.last (each_up depth (length map') (Lies map' size depth) (tree_up map' size depth) t.kids t.last lies.1)

pub below_up : (map' : PageMap) (size depth : ℕ) (t : Tree depth) → Lies map' size depth t → AreUpTo (length map') (below_of depth t)
below_up map' size depth t lies n some = tree_up map' size depth t lies n (let e = ap (occurs n) (pages_split depth t) in omega (arith, e, some))

-- ---- after a move

fresh_once : (a b n : ℕ) → fresh a b n ≤ 1
fresh_once a b n = grind (arith, common_steps)

-- pages are used or free once, as before
pub once_after : (old new : PageMap) (size : ℕ) (used free now_used now_free : List ℕ) → AreFree old size free → Moves old new used free now_used now_free → AreUpTo (length old) used
    → ((n : ℕ) → occurs n used + occurs n free ≤ 1) → (n : ℕ) → occurs n now_used + occurs n now_free ≤ 1
once_after old new size used free now_used now_free are moves up apart n = elim (cases_lt (length old) n) [
  | inl lt ↦ (let one = fresh_once (length old) (length new) n in
      let none_used : occurs n used ≡ 0 = none n (occurs n used) (λ some. up n some) lt in
      let none_free : occurs n free ≡ 0 = none n (occurs n free) (λ some. (free_there old size free n are.has some).last) lt in
      let counts = moves.counts n in omega (arith, one, none_used, none_free, counts))
  | inr ge ↦ (let counts = moves.counts n in let old_page = not_fresh (length old) (length new) n ge in let once = apart n in omega (arith, counts, old_page, once))
]
  where
    none : (n count : ℕ) → (1 ≤ count → n ≤ length old) → length old < n → count ≡ 0
    none n zero le lt = refl
    none n (suc count) le lt = absurd (let k = le (omega arith) in omega (arith, k, lt))

-- What is free after a move, and that page 1 isn't among the pages that moved.
pub record IsAfter (new : PageMap) (size : ℕ) (now_used now_free : List ℕ) : Type 0 where
  pub are : AreFree new size now_free
  pub apart : (n : ℕ) → occurs n now_used + occurs n now_free ≤ 1
  pub first : occurs 1 now_used ≡ 0

pub after : (old new : PageMap) (size : ℕ) (used free now_used now_free : List ℕ) → AreFree old size free → Moves old new used free now_used now_free → HasFree new size now_free → AreUpTo (length old) used
    → ((n : ℕ) → occurs n used + occurs n free ≤ 1) → occurs 1 used ≡ 0 → IsAfter new size now_used now_free
after old new size used free now_used now_free are moves has up apart first =
    let once = once_after old new size used free now_used now_free are moves up apart in
    let there = ((one_there old size free are).has).last in
    let none_one = not_fresh (length old) (length new) 1 there in
    let counts = moves.counts 1 in
    let behind = are.behind in
    record {
      are = record {
        has = has;
        once = record { once = λ n. (let both = once n in omega (arith, both)) };
        behind = omega (arith, none_one, counts, behind, first);
        whole = moves.whole size are.whole;
      };
      apart = once;
      first = omega (arith, none_one, counts, behind, first);
    }

-- The same beside a page at the top, which may be page 1.
pub after_top : (old new : PageMap) (size page : ℕ) (used free now_used now_free : List ℕ) → AreFree old size free → Moves old new (page ∷ used) free (page ∷ now_used) now_free → HasFree new size now_free
    → AreUpTo (length old) (page ∷ used) → ((n : ℕ) → occurs n (page ∷ used) + occurs n free ≤ 1) → occurs 1 used ≡ 0 → IsAfter new size now_used now_free
after_top old new size page used free now_used now_free are moves has up apart first =
    let once = once_after old new size (page ∷ used) free (page ∷ now_used) now_free are moves up apart in
    let there = ((one_there old size free are).has).last in
    let none_one = not_fresh (length old) (length new) 1 there in
    let counts = moves.counts 1 in
    let behind = are.behind in
    let was = occurs_append 1 (page ∷ []) used in
    let now = occurs_append 1 (page ∷ []) now_used in
    record {
      are = record {
        has = has;
        once = record { once = λ n. (let both = once n in omega (arith, both)) };
        behind = omega (arith, none_one, counts, behind, first, was, now);
        whole = moves.whole size are.whole;
      };
      apart = λ n. (let both = once n in let e = occurs_append n (page ∷ []) now_used in omega (arith, both, e));
      first = omega (arith, none_one, counts, behind, first, was, now);
    }

-- ---- beside others

pub beside_used : (old new : PageMap) (used free now_used now_free others all now_all : List ℕ) → Moves old new used free now_used now_free → IsJoined used others all → IsJoined now_used others now_all
    → Moves old new all free now_all now_free
beside_used old new used free now_used now_free others all now_all moves was now = record {
  longer = moves.longer;
  counts = λ n. (let at = moves.counts n in let a = was n in let b = now n in omega (arith, at, a, b));
  keeps = λ n from to none. moves.keeps n from to (let a = was n in omega (arith, none, a));
  whole = moves.whole;
}

-- pages that are neither used nor free are seen as before
pub others_seen : (old new : PageMap) (used free now_used now_free others : List ℕ) → Moves old new used free now_used now_free
    → ((n : ℕ) → 1 ≤ occurs n others → occurs n used + occurs n free ≡ 0) → AreSeen old new others
others_seen old new used free now_used now_free others moves none = record { same = λ n from to some. moves.keeps n from to (none n some) }
