-- The chains of several tails.
use Rattle.std.proofs.Common.{◌≡◌, ◌-◌, ◌≤◌, ◌<◌, ℕ, suc, Bool, List, [], ◌∷◌, length, take, drop, slice_index_or, refl, ap, subst, ◌∙◌, arith, Ok, Err}
use Rattle.std.proofs.lemmas.List.{take_all}
use Rattle.std.specs.List.{flat_map}
use Rattle.std.specs.Prelude.{⊤, Result, IsErrAnd}
use Rattle.sqlval.specs.declared.fault.Fault.{Fault}
use Rattle.pages.specs.Counting.{occurs}
use Rattle.pages.specs.Map.{PageMap}
use Rattle.tree_page.specs.Cells.{Pairwise}
use Rattle.tree_check.specs.Exact.{Checks}
use Rattle.tree_check.specs.Tails.{Chain, IsTailOn}
use Rattle.tree_check.specs.declared.chains.Tail.{Tail}
use Rattle.tree_check.proofs.Links.{pages_on}
use Rattle.tree_check.proofs.Parting.{IsBoth, IsOf, both_appended, first_refused, then_checks, nothing_left}

-- all but the first
pub all_taken : {X : Type 0} (rest : List X) → take (suc (length rest) - 1) rest ≡ rest
all_taken rest = let e : suc (length rest) - 1 ≡ length rest = omega arith in ap (λ n. take n rest) e ∙ take_all (length rest) rest (omega arith)

module _ (map : PageMap) (size : ℕ) (tail : Tail) (tails : List Tail) where
  apart : (chains : List Chain) → Pairwise (IsTailOn map size) (tail ∷ tails) chains → IsBoth (IsTailOn map size tail) (Pairwise (IsTailOn map size) tails) pages_on (flat_map pages_on) (flat_map pages_on chains)
  apart [] all = absurd all
  apart (chain ∷ chains) all = record { one = chain; other = chains; is = all.0; also = all.1; both = both_appended chain.pages (flat_map pages_on chains) }

  together : (chain : Chain) (chains : List Chain) → IsTailOn map size tail chain → Pairwise (IsTailOn map size) tails chains
      → IsOf (Pairwise (IsTailOn map size) (tail ∷ tails)) (flat_map pages_on) chain.pages (flat_map pages_on chains)
  together chain chains first rest = record { it = chain ∷ chains; is = (first, rest); both = both_appended chain.pages (flat_map pages_on chains) }

-- what the tails after the first decide
pub tail_then : (map : PageMap) (size : ℕ) (rest : List Tail) (d : Tail) (old mid : List Bool) → 1 ≤ length rest
    → Checks (IsTailOn map size (slice_index_or rest 0 d)) pages_on old mid (Ok tt) → (new : List Bool) (result : Result ⊤ Fault)
    → Checks (Pairwise (IsTailOn map size) (take (length rest - 1) (drop 1 rest))) (flat_map pages_on) mid new result → Checks (Pairwise (IsTailOn map size) rest) (flat_map pages_on) old new result
tail_then map size [] d old mid some first new result then = absurd (omega (arith, some))
tail_then map size (tail ∷ tails) d old mid some first new result then =
    then_checks (IsTailOn map size tail) (Pairwise (IsTailOn map size) tails) (Pairwise (IsTailOn map size) (tail ∷ tails)) pages_on (flat_map pages_on) (flat_map pages_on)
    (apart map size tail tails) (together map size tail tails) old mid new result first
    (subst (λ (them : List Tail). Checks (Pairwise (IsTailOn map size) them) (flat_map pages_on) mid new result) (all_taken tails) then)

-- the first is refused
pub tail_stops : (map : PageMap) (size : ℕ) (rest : List Tail) (d : Tail) (old mid new : List Bool) (fault : Fault) (result : Result ⊤ Fault) → 1 ≤ length rest
    → Checks (IsTailOn map size (slice_index_or rest 0 d)) pages_on old mid (Err fault) → IsErrAnd result (λ e. e ≡ fault) → Checks (Pairwise (IsTailOn map size) rest) (flat_map pages_on) old new result
tail_stops map size [] d old mid new fault result some first is = absurd (omega (arith, some))
tail_stops map size (tail ∷ tails) d old mid new fault result some first is =
    first_refused (IsTailOn map size tail) (Pairwise (IsTailOn map size) tails) (Pairwise (IsTailOn map size) (tail ∷ tails)) pages_on (flat_map pages_on) (flat_map pages_on)
    (apart map size tail tails) old mid new fault result first is

no_chains : (map : PageMap) (size : ℕ) (chains : List Chain) → Pairwise (IsTailOn map size) [] chains → (n : ℕ) → occurs n (flat_map pages_on chains) ≡ 0
no_chains map size [] all n = refl
no_chains map size (chain ∷ chains) all n = absurd all

-- no tail is left
pub tails_end : (map : PageMap) (size : ℕ) (rest : List Tail) (marks : List Bool) → length rest < 1 → Checks (Pairwise (IsTailOn map size) rest) (flat_map pages_on) marks marks (Ok tt)
tails_end map size [] marks none = nothing_left (Pairwise (IsTailOn map size) []) (flat_map pages_on) marks [] tt (no_chains map size)
tails_end map size (tail ∷ tails) marks none = absurd (omega (arith, none))
