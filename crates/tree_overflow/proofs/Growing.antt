-- A file grows only if no page is free.
use Rattle.std.proofs.Common.{◌≡◌, ◌⊎◌, inl, inr, refl, ◌≤◌, ℕ, List, [], ◌∷◌, length, ap, ◌∙◌, arith}
use Rattle.std.proofs.lemmas.Grind.{common_steps}
use Rattle.pages.specs.Map.{PageMap}
use Rattle.pages.specs.Counting.{occurs, fresh, Moves}

-- the file has as many pages as before, or none of it is free
abbrev pub GrewIfFull : PageMap → PageMap → List ℕ → Type 0
GrewIfFull old new now_free = (length new ≡ length old) ⊎ (now_free ≡ [])

occurs_self : (n : ℕ) (xs : List ℕ) → 1 ≤ occurs n (n ∷ xs)
occurs_self n xs = grind (arith)

pub none_at_all : (xs : List ℕ) → ((n : ℕ) → occurs n xs ≡ 0) → xs ≡ []
none_at_all [] none = refl
none_at_all (x ∷ xs) none = (let here = occurs_self x xs in let no = none x in absurd (omega (arith, here, no)))

fresh_same : (a n : ℕ) → fresh a a n ≡ 0
fresh_same a n = grind (arith, common_steps)

-- where nothing is free, and the file doesn't grow, nothing is free after it, if what was used is used still
pub still_none : (old new : PageMap) (used more free now_free : List ℕ) → length new ≡ length old → free ≡ [] → ((n : ℕ) → occurs n used ≤ occurs n more)
    → Moves old new used free more now_free → now_free ≡ []
still_none old new used more free now_free same none still moves =
    none_at_all now_free (λ n.
    (let counts = moves.counts n in let no_fresh = ap (λ (k : ℕ). fresh (length old) k n) same ∙ fresh_same (length old) n in
    let gone = ap (occurs n) none in let s = still n in omega (arith, counts, no_fresh, gone, s)))

-- first so, and then so
pub grew_then : (old mid new : PageMap) (used more mid_free now_free : List ℕ) → (length mid ≡ length old) ⊎ (mid_free ≡ []) → ((n : ℕ) → occurs n used ≤ occurs n more)
    → Moves mid new used mid_free more now_free → GrewIfFull mid new now_free → GrewIfFull old new now_free
grew_then old mid new used more mid_free now_free before still moves (inr none) = inr none
grew_then old mid new used more mid_free now_free (inl long) still moves (inl same) = inl (same ∙ long)
grew_then old mid new used more mid_free now_free (inr none) still moves (inl same) = inr (still_none mid new used more mid_free now_free same none still moves)
