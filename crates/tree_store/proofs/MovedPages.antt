-- Pages that moved: what can be written then, and moves one after the other.
use Rattle.std.proofs.Common.{◌≡◌, inl, inr, ℕ, ◌+◌, ◌<◌, ◌≤◌, List, [], ◌∷◌, ◌++◌, length, drop, refl, subst, ◌∙◌, arith}
use Rattle.std.proofs.lemmas.Grind.{common_steps}
use Rattle.std.proofs.lemmas.Bool.{cases_lt, cases_eq}
use Rattle.std.specs.List.{AllByRecursion}
use Rattle.pages.specs.Counting.{occurs, fresh, Moves, body_at, start_of}
use Rattle.pages.specs.Map.{PageMap, page_at, Has}
use Rattle.pages.proofs.Moving.{in_sequence, occurs_append, not_fresh}
use Rattle.freelist.specs.Freelist.{Trunk, AreTrunks, pages_of}
use Rattle.freelist.specs.Calls.{AreFree, HasFree, KeepsHeader}
use Rattle.freelist.proofs.Lists.{occurs_here, occurs_self}
use Rattle.freelist.proofs.Taken.{one_there}
use Rattle.tree_page.specs.Cells.{Pairwise}
use Rattle.tree_store.specs.Storing.{IsOn, AreOlds}
use Rattle.tree_store.specs.Steps.{HasMoved}

-- ---- lists of pages

not_first : (n x : ℕ) (xs : List ℕ) → (x ≡ n → ⊥) → 1 ≤ occurs n (x ∷ xs) → 1 ≤ occurs n xs
not_first n x xs other some = grind (arith, common_steps)

-- a page that stands in a list of pages is as each of them is
pub in_all : (p : ℕ → Type 0) (n : ℕ) (xs : List ℕ) → AllByRecursion p xs → 1 ≤ occurs n xs → p n
in_all p n [] all some = absurd (omega (arith, some))
in_all p n (x ∷ xs) all some = elim (cases_eq x n) [
  | inl same ↦ subst p same all.0
  | inr other ↦ in_all p n xs all.1 (not_first n x xs other some)
]

pub occurs_first : (n : ℕ) (xs : List ℕ) → 1 ≤ occurs n (n ∷ xs)
occurs_first n xs = (let self = occurs_self n in omega (arith, self))

pub all_from : (p : ℕ → Type 0) (xs : List ℕ) → ((n : ℕ) → 1 ≤ occurs n xs → p n) → AllByRecursion p xs
all_from p [] each = tt
all_from p (x ∷ xs) each = (each x (occurs_first x xs), all_from p xs (λ n some. each n (omega (arith, some))))

all_both : (p : ℕ → Type 0) (xs ys : List ℕ) → AllByRecursion p xs → AllByRecursion p ys → AllByRecursion p (xs ++ ys)
all_both p [] ys a b = b
all_both p (x ∷ xs) ys a b = (a.0, all_both p xs ys a.1 b)

pub none_at_all : (xs : List ℕ) → ((n : ℕ) → occurs n xs ≡ 0) → xs ≡ []
none_at_all [] none = refl
none_at_all (x ∷ xs) none = absurd (occurs_here x x xs (none x) refl)

-- ---- free pages

trunks_have : (map : PageMap) (size : ℕ) (ts : List Trunk) → AreTrunks map size ts → AllByRecursion (Has map) (pages_of ts)
trunks_have map size [] are = tt
trunks_have map size (t ∷ ts) are = ((are.0).has, all_both (Has map) t.leaves (pages_of ts) (are.0).leaves (trunks_have map size ts are.1))

-- free pages are there
free_there : (map : PageMap) (size : ℕ) (free : List ℕ) (n : ℕ) → HasFree map size free → 1 ≤ occurs n free → Has map n
free_there map size free n has some = in_all (Has map) n (pages_of has.trunks) (trunks_have map size has.trunks (has.listed).trunks_are) (let same = has.free_is n in omega (arith, same, some))

-- ---- pages that moved

fresh_once : (a b n : ℕ) → fresh a b n ≤ 1
fresh_once a b n = grind (arith, common_steps)

fresh_there : (a b n : ℕ) → 1 ≤ fresh a b n → (1 ≤ n) × (n ≤ b)
fresh_there a b n some = (grind (arith, common_steps), grind (arith, common_steps))

-- the page is there, and is one of those that were used or free
was_there : (old : PageMap) (size n : ℕ) (used free : List ℕ) → AreFree old size free → AreOlds old free used → 1 ≤ occurs n used + occurs n free → Has old n
was_there old size n used free are olds some = elim (cases_lt 0 (occurs n free)) [
  | inl lt ↦ free_there old size free n are.has (omega (arith, lt))
  | inr ge ↦ in_all (Has old) n used olds.there (omega (arith, some, ge))
]

-- each page is used or free once
once_all : (old new : PageMap) (size n : ℕ) (used free : List ℕ) → AreFree old size free → AreOlds old free used → occurs n used + occurs n free + fresh (length old) (length new) n ≤ 1
once_all old new size n used free are olds = elim (cases_lt 0 (occurs n used + occurs n free)) [
  | inl lt ↦ (let last = (was_there old size n used free are olds (omega (arith, lt))).last in let none = not_fresh (length old) (length new) n last in
      let most = (olds.once).once n in let both = occurs_append n used free in omega (arith, none, most, both))
  | inr ge ↦ (let one = fresh_once (length old) (length new) n in omega (arith, ge, one))
]

is_there : (old new : PageMap) (size n : ℕ) (used free now_used now_free : List ℕ) → AreFree old size free → AreOlds old free used → Moves old new used free now_used now_free → 1 ≤ occurs n now_used → Has new n
is_there old new size n used free now_used now_free are olds moves some =
    let at = moves.counts n in
    let longer = moves.longer in
    elim (cases_lt 0 (occurs n used + occurs n free)) [
      | inl lt ↦ (let was = was_there old size n used free are olds (omega (arith, lt)) in let last = was.last in record { first = was.first; last = omega (arith, last, longer) })
      | inr ge ↦ (let new_one = fresh_there (length old) (length new) n (omega (arith, at, some, ge)) in record { first = new_one.0; last = new_one.1 })
    ]

-- page 1 is neither used nor free
none_one : (old new : PageMap) (size : ℕ) (used free now_used now_free : List ℕ) → AreFree old size free → AreOlds old free used → Moves old new used free now_used now_free → occurs 1 now_used + occurs 1 now_free ≡ 0
none_one old new size used free now_used now_free are olds moves =
    let at = moves.counts 1 in
    let first = ((one_there old size free are).has).last in
    let none_new = not_fresh (length old) (length new) 1 first in
    let behind = are.behind in
    elim (cases_lt 0 (occurs 1 used)) [
      | inl lt ↦ absurd (let after = in_all (λ n. 1 < n) 1 used olds.after (omega (arith, lt)) in omega (arith, after))
      | inr ge ↦ omega (arith, at, none_new, behind, ge)
    ]

-- what is free then, is free once
pub free_now : (old new : PageMap) (size : ℕ) (used free now_used now_free : List ℕ) → AreFree old size free → AreOlds old free used → HasMoved old new size used free now_used now_free → AreFree new size now_free
free_now old new size used free now_used now_free are olds moved =
    let moves = moved.moves in
    record {
      has = moved.has;
      once = record { once = λ n. (let at = moves.counts n in let most = once_all old new size n used free are olds in omega (arith, at, most)) };
      behind = (let none = none_one old new size used free now_used now_free are olds moves in omega (arith, none));
      whole = moves.whole size are.whole;
    }

-- what is used then can be written
pub olds_now : (old new : PageMap) (size : ℕ) (used free now_used now_free : List ℕ) → AreFree old size free → AreOlds old free used → HasMoved old new size used free now_used now_free → AreOlds new now_free now_used
olds_now old new size used free now_used now_free are olds moved =
    let moves = moved.moves in
    let none = none_one old new size used free now_used now_free are olds moves in
    record {
      there = all_from (Has new) now_used (λ n some. is_there old new size n used free now_used now_free are olds moves some);
      after = all_from (λ n. 1 < n) now_used (λ n some. (let first = (is_there old new size n used free now_used now_free are olds moves some).first in
          elim (cases_lt 1 n) [
            | inl lt ↦ lt
            | inr ge ↦ absurd (let one : 1 ≤ occurs 1 now_used = subst (λ (k : ℕ). 1 ≤ occurs k now_used) (omega (arith, first, ge)) some in omega (arith, one, none))
          ]));
      once = record { once = λ n. (let at = moves.counts n in let most = once_all old new size n used free are olds in let both = occurs_append n now_used now_free in omega (arith, at, most, both)) };
    }

-- and so can some of them
pub olds_part : (map : PageMap) (free part all : List ℕ) → ((n : ℕ) → occurs n part ≤ occurs n all) → AreOlds map free all → AreOlds map free part
olds_part map free part all less olds = record {
  there = all_from (Has map) part (λ n some. in_all (Has map) n all olds.there (let le = less n in omega (arith, le, some)));
  after = all_from (λ n. 1 < n) part (λ n some. in_all (λ n. 1 < n) n all olds.after (let le = less n in omega (arith, le, some)));
  once = record { once = λ n. (let most = (olds.once).once n in let le = less n in let both = occurs_append n all free in let ours = occurs_append n part free in omega (arith, most, le, both, ours)) };
}

-- ---- one after the other

pub keeps_then : (a b c : PageMap) → KeepsHeader a b → KeepsHeader b c → KeepsHeader a c
keeps_then a b c first then header is = (let now = first header is in then (record header { freelist_trunk = now.0; freelist_count = now.1 }) now.2)

pub moved_then : (a b c : PageMap) (size : ℕ) (used free mid_used mid_free now_used now_free : List ℕ) → HasMoved a b size used free mid_used mid_free → HasMoved b c size mid_used mid_free now_used now_free → HasMoved a c size used free now_used now_free
moved_then a b c size used free mid_used mid_free now_used now_free first then = record {
  has = then.has;
  moves = in_sequence a b c used free mid_used mid_free now_used now_free first.moves then.moves;
  header = keeps_then a b c first.header then.header;
}

-- pages that moved move beside others too
pub moved_beside : (old new : PageMap) (size : ℕ) (used free now_used now_free others all now_all : List ℕ) → HasMoved old new size used free now_used now_free → ((n : ℕ) → occurs n all ≡ occurs n used + occurs n others)
    → ((n : ℕ) → occurs n now_all ≡ occurs n now_used + occurs n others) → HasMoved old new size all free now_all now_free
moved_beside old new size used free now_used now_free others all now_all moved before after =
    let moves = moved.moves in
    record {
      has = moved.has;
      moves = record {
        longer = moves.longer;
        counts = λ n. (let at = moves.counts n in let a = before n in let b = after n in omega (arith, at, a, b));
        keeps = λ n from to none. moves.keeps n from to (let a = before n in omega (arith, none, a));
        whole = moves.whole;
      };
      header = moved.header;
    }

-- no page moved
pub none_moved : (map : PageMap) (size : ℕ) (free : List ℕ) → HasFree map size free → HasMoved map map size [] free [] free
none_moved map size free has = record {
  has = has;
  moves = record {
    longer = omega arith;
    counts = λ n. (let none = fresh_none (length map) n in omega (arith, none));
    keeps = λ n from to none. refl;
    whole = λ s whole. whole;
  };
  header = λ header is. (header.freelist_trunk, header.freelist_count, is);
} where
  fresh_none : (a n : ℕ) → fresh a a n ≡ 0
  fresh_none a n = grind (arith, common_steps)

-- ---- what stands on pages

start_behind : (n : ℕ) → 1 < n → start_of n ≡ 0
start_behind n behind = grind (arith, common_steps)

-- of a page after page 1 trees see the whole
whole_body : (old new : PageMap) (n : ℕ) → 1 < n → body_at new n ≡ body_at old n → page_at new n ≡ page_at old n
whole_body old new n behind same = subst (λ (k : ℕ). drop k (page_at new n) ≡ drop k (page_at old n)) (start_behind n behind) same

-- a page that didn't move has the bytes that it had
pub on_still : (old new : PageMap) (size : ℕ) (used free now_used now_free : List ℕ) (number : ℕ) (bytes : List ℕ) → HasMoved old new size used free now_used now_free → occurs number used + occurs number free ≡ 0 → IsOn old number bytes → IsOn new number bytes
on_still old new size used free now_used now_free number bytes moved none on =
    let moves = moved.moves in
    let has = on.has in
    let last = has.last in
    let longer = moves.longer in
    record {
      has = record { first = has.first; last = omega (arith, last, longer) };
      after = on.after;
      near = on.near;
      is = whole_body old new number on.after (moves.keeps number has.first last none) ∙ on.is;
    }

pub all_on_still : (old new : PageMap) (size : ℕ) (used free now_used now_free numbers : List ℕ) (images : List (List ℕ)) → HasMoved old new size used free now_used now_free
    → ((n : ℕ) → 1 ≤ occurs n numbers → occurs n used + occurs n free ≡ 0) → Pairwise (IsOn old) numbers images → Pairwise (IsOn new) numbers images
all_on_still old new size used free now_used now_free [] [] moved apart on = tt
all_on_still old new size used free now_used now_free [] (y ∷ ys) moved apart on = absurd on
all_on_still old new size used free now_used now_free (x ∷ xs) [] moved apart on = absurd on
all_on_still old new size used free now_used now_free (x ∷ xs) (y ∷ ys) moved apart on = (
  on_still old new size used free now_used now_free x y moved (apart x (occurs_first x xs)) on.0,
  all_on_still old new size used free now_used now_free xs ys moved (λ n some. apart n (omega (arith, some))) on.1,
)
