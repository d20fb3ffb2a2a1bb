-- What is free and used after pages moved.
use Rattle.std.proofs.Common.{◌≡◌, ◌≤◌, ◌<◌, ◌+◌, ◌-◌, ℕ, zero, suc, List, [], ◌∷◌, ◌++◌, length, drop, refl, sym, ap, inl, inr, arith}
use Rattle.std.proofs.lemmas.Grind.{common_steps}
use Rattle.std.proofs.lemmas.Bool.{cases_lt, cases_eq}
use Rattle.pages.specs.Counting.{occurs, start_of, fresh, Moves}
use Rattle.pages.specs.Laws.{IsJoined}
use Rattle.pages.specs.Map.{PageMap, Has, AreWhole}
use Rattle.pages.proofs.Moving.{occurs_append, not_fresh}
use Rattle.tree_overflow.specs.Chains.{IsChain}
use Rattle.tree_overflow.proofs.Laying.{free_there}
use Rattle.freelist.specs.Calls.{AreFree, HasFree}
use Rattle.freelist.proofs.Taken.{one_there}
use Rattle.tree_store.specs.Staying.{AreKept}

-- ---- lists of pages that are there

here_or_later : (n x : ℕ) (xs : List ℕ) → 1 ≤ occurs n (x ∷ xs) → (x ≡ n → ⊥) → 1 ≤ occurs n xs
here_or_later n x xs some other = grind (arith, common_steps)

-- each page of a list is at most this
abbrev pub AreUpTo : ℕ → List ℕ → Type 0
AreUpTo most pages = (n : ℕ) → 1 ≤ occurs n pages → n ≤ most

pub up_cons : (most x : ℕ) (xs : List ℕ) → x ≤ most → AreUpTo most xs → AreUpTo most (x ∷ xs)
up_cons most x xs le up n some = elim (cases_lt most n) [
  | inl lt ↦ up n (here_or_later n x xs some (λ same. omega (arith, lt, le, same)))
  | inr ge ↦ omega (arith, ge)
]

pub up_append : (most : ℕ) (xs ys : List ℕ) → AreUpTo most xs → AreUpTo most ys → AreUpTo most (xs ++ ys)
up_append most xs ys a b n some = elim (cases_lt 0 (occurs n xs)) [
  | inl lt ↦ a n lt
  | inr ge ↦ b n (let e = occurs_append n xs ys in omega (arith, e, some, ge))
]

pub up_none : (most : ℕ) → AreUpTo most []
up_none most n some = absurd (omega (arith, some))

pub chain_up : (map' : PageMap) (usable : ℕ) (bytes chain : List ℕ) → IsChain map' usable bytes chain → AreUpTo (length map') chain
chain_up map' usable bytes [] h = up_none (length map')
chain_up map' usable bytes (page ∷ chain) h = up_cons (length map') page chain h.0.has.last (chain_up map' usable (drop (usable - 4) bytes) chain h.1)

-- ---- how often

pub self_once : (n : ℕ) (xs : List ℕ) → occurs n (n ∷ xs) ≡ 1 + occurs n xs
self_once n xs = grind (arith, common_steps)

at_most : (n x : ℕ) → occurs n (x ∷ []) ≤ 1
at_most n x = grind (arith, common_steps)

pub not_there : (n x : ℕ) → (x ≡ n → ⊥) → occurs n (x ∷ []) ≡ 0
not_there n x other = grind (arith, common_steps)

-- one page more beside those that are there once each
pub other_or_none : (n root : ℕ) (free : List ℕ) → occurs root free ≡ 0 → occurs n free ≤ 1 → occurs n (root ∷ []) + occurs n free ≤ 1
other_or_none n root free none once = elim (cases_eq root n) [
  | inl same ↦ (let gone = ap (λ (k : ℕ). occurs k free) (sym same) in let self = at_most n root in omega (arith, gone, none, self))
  | inr other ↦ (let gone = not_there n root other in omega (arith, gone, once))
]

-- a page that is there, and isn't page 1, is after it
pub after_first : (m : PageMap) (page : ℕ) (pages : List ℕ) → Has m page → occurs 1 (page ∷ pages) ≡ 0 → 1 < page
after_first m page pages has none = elim (cases_lt 1 page) [
  | inl lt ↦ lt
  | inr ge ↦ (let from = has.first in let same : page ≡ 1 = omega (arith, from, ge) in let self = self_once 1 pages in let e = ap (λ (k : ℕ). occurs 1 (k ∷ pages)) same in absurd (omega (arith, self, none, e)))
]

pub start_after : (n : ℕ) → 1 < n → start_of n ≡ 0
start_after n after = grind (arith, common_steps)

-- ---- after a move

fresh_once : (a b n : ℕ) → fresh a b n ≤ 1
fresh_once a b n = grind (arith, common_steps)

-- pages are used or free once, as before
pub once_after : (old new : PageMap) (size : ℕ) (used free now_used now_free : List ℕ) → AreFree old size free → Moves old new used free now_used now_free → AreUpTo (length old) used
    → ((n : ℕ) → occurs n used + occurs n free ≤ 1) → (n : ℕ) → occurs n now_used + occurs n now_free ≤ 1
once_after old new size used free now_used now_free are moves up apart n = elim (cases_lt (length old) n) [
  | inl lt ↦ (let one = fresh_once (length old) (length new) n in
      let none_used : occurs n used ≡ 0 = none n (occurs n used) (λ some. up n some) lt in
      let none_free : occurs n free ≡ 0 = none n (occurs n free) (λ some. (free_there old size free n are.has some).last) lt in
      let counts = moves.counts n in omega (arith, one, none_used, none_free, counts))
  | inr ge ↦ (let counts = moves.counts n in let old_page = not_fresh (length old) (length new) n ge in let once = apart n in omega (arith, counts, old_page, once))
]
  where
    none : (n count : ℕ) → (1 ≤ count → n ≤ length old) → length old < n → count ≡ 0
    none n zero le lt = refl
    none n (suc count) le lt = absurd (let k = le (omega arith) in omega (arith, k, lt))

-- What is free after a move, and that page 1 isn't among the pages that moved.
pub record IsAfter (new : PageMap) (size : ℕ) (now_used now_free : List ℕ) : Type 0 where
  pub are : AreFree new size now_free
  pub apart : (n : ℕ) → occurs n now_used + occurs n now_free ≤ 1
  pub first : occurs 1 now_used ≡ 0

pub after : (old new : PageMap) (size : ℕ) (used free now_used now_free : List ℕ) → AreFree old size free → Moves old new used free now_used now_free → HasFree new size now_free → AreUpTo (length old) used
    → ((n : ℕ) → occurs n used + occurs n free ≤ 1) → occurs 1 used ≡ 0 → IsAfter new size now_used now_free
after old new size used free now_used now_free are moves has up apart first =
    let once = once_after old new size used free now_used now_free are moves up apart in
    let there = ((one_there old size free are).has).last in
    let none_one = not_fresh (length old) (length new) 1 there in
    let counts = moves.counts 1 in
    let behind = are.behind in
    record {
      are = record {
        has = has;
        once = record { once = λ n. (let both = once n in omega (arith, both)) };
        behind = omega (arith, none_one, counts, behind, first);
        whole = moves.whole size are.whole;
      };
      apart = once;
      first = omega (arith, none_one, counts, behind, first);
    }

-- ---- beside others

pub beside_used : (old new : PageMap) (used free now_used now_free others all now_all : List ℕ) → Moves old new used free now_used now_free → IsJoined used others all → IsJoined now_used others now_all
    → Moves old new all free now_all now_free
beside_used old new used free now_used now_free others all now_all moves was now = record {
  longer = moves.longer;
  counts = λ n. (let at = moves.counts n in let a = was n in let b = now n in omega (arith, at, a, b));
  keeps = λ n from to none. moves.keeps n from to (let a = was n in omega (arith, none, a));
  whole = moves.whole;
}

-- pages that are neither used nor free are seen as before
pub others_kept : (old new : PageMap) (size : ℕ) (used free now_used now_free others : List ℕ) → AreWhole size old → Moves old new used free now_used now_free
    → ((n : ℕ) → 1 ≤ occurs n others → occurs n used + occurs n free ≡ 0) → AreKept old new size others
others_kept old new size used free now_used now_free others whole moves none = record {
  whole = whole;
  whole_now = moves.whole size whole;
  longer = moves.longer;
  same = λ n has some. moves.keeps n has.first has.last (none n some);
}
