-- Pages that are read one after the other.
use Rattle.std.proofs.Common.{◌≡◌, ◌≤◌, ◌<◌, ◌+◌, inl, inr, ℕ, Bool, refl, sym, subst, arith, length, Ok, Err}
use Rattle.std.specs.Prelude.{⊤, Result, IsErrAnd, IfErr}
use Rattle.std.proofs.lemmas.Bool.{cases_lt}
use Rattle.sqlval.specs.declared.fault.Fault.{Fault}
use Rattle.sqlval.specs.Faults.{IsOutside}
use Rattle.pages.specs.Calls.{Limits, Stays}
use Rattle.pages.specs.Map.{PageMap, AreWhole, Has, IsThere, page_at}
use Rattle.tree_overflow.proofs.ReadChains.{unrefused, stays_after, stays_refused}
use Rattle.tree_check.specs.Exact.{AreTold}
use Rattle.tree_check.proofs.Parting.{told_after}

module _ {P K : Type 0} (below : P → K) (tells : K → Bool) (limits : K → Limits) (bytes : P → PageMap) (count : P → ℕ) (failures : P → ℕ × ℕ) where
  -- The pages up to here are whole.
  pub record HasRead (old now : P) (place : ℕ) : Type 0 where
    pub stays : Stays below bytes count failures unrefused old now
    pub each : (map : PageMap) (size : ℕ) → AreTold below tells limits bytes old map size → (n : ℕ) → 1 ≤ n → n ≤ place → length (page_at map n) ≡ size

  pub none_read : (old : P) → HasRead old old 0
  none_read old = record {
    stays = record { kept = refl; same = refl; counted = refl; causes = record { db = omega arith; log = omega arith; why = tt } };
    each = λ map size told n first last. absurd (omega (arith, first, last));
  }

  module _ (old now next : P) (place : ℕ) (has : HasRead old now place) where
    pub told_then : (map : PageMap) (size : ℕ) → AreTold below tells limits bytes old map size → AreTold below tells limits bytes now map size
    told_then map size told = told_after below tells limits bytes old now map size has.stays.kept has.stays.same told

    -- one more is whole
    pub one_read : Stays below bytes count failures unrefused now next → ((map : PageMap) (size : ℕ) → AreTold below tells limits bytes now map size → length (page_at map (place + 1)) ≡ size) → HasRead old next (place + 1)
    one_read stays is = record {
      stays = stays_after below bytes count failures unrefused unrefused old now next has.stays stays;
      each = λ map size told n first last. elim (cases_lt place n) [
        | inl past ↦ (let at : place + 1 ≡ n = omega (arith, past, last) in subst (λ (m : ℕ). length (page_at map m) ≡ size) at (is map size (told_then map size told)))
        | inr so_far ↦ has.each map size told n first so_far
      ];
    }

    pub stays_stopped : (fault : Fault) (result : Result ⊤ Fault) → Stays below bytes count failures {T = ⊤} (Err fault) now next → IsErrAnd result (λ e. e ≡ fault) → Stays below bytes count failures result old next
    stays_stopped fault result stays is = stays_refused {S = ⊤} below bytes count failures fault result old next (stays_after {S = ⊤} {T = ⊤} below bytes count failures unrefused (Err fault) old now next has.stays stays) is

    -- a page that is whole isn't refused
    pub page_refused : (map : PageMap) (size : ℕ) (fault : Fault) (result : Result ⊤ Fault) → AreTold below tells limits bytes old map size → place < length map → AreWhole size map
        → ((map : PageMap) (size : ℕ) → AreTold below tells limits bytes now map size → IsThere map size (place + 1) → IsOutside fault) → IsErrAnd result (λ e. e ≡ fault) → IfErr result IsOutside
    page_refused map size fault (Ok done) told lt whole only is = absurd is
    page_refused map size fault (Err e) told lt whole only is =
        let there : Has map (place + 1) = record { first = omega arith; last = omega (arith, lt) } in
        subst IsOutside (sym is) (only map size (told_then map size told) (record { has = there; whole = whole (place + 1) there }))
