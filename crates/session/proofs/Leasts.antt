-- The snapshot that sees the fewest frames.
use Rattle.std.proofs.Common.{◌≡◌, ◌⊎◌, ◌≤◌, inl, inr, sym, subst, List, [], ◌∷◌, arith}
use Rattle.std.specs.Prelude.{⊤, Option, Some, None, MatchOption}
use Rattle.std.specs.List.{AllByRecursion}
use Rattle.wal.specs.LogState.{seen_by}
use Rattle.wal.specs.declared.log.Snapshot.{Snapshot}
use Rattle.session.specs.Seats.{IsFewer, IsLeast, IsSeen, SeesAtLeast, snapshot_in}
use Rattle.session.specs.declared.seats.Seat.{Seat}

at_least : (few more : Snapshot) (seen : Option Snapshot) → seen_by few ≤ seen_by more → MatchOption seen (⊤) (λ s. seen_by more ≤ seen_by s) → MatchOption seen (⊤) (λ s. seen_by few ≤ seen_by s)
at_least few more None le is = tt
at_least few more (Some s) le is = omega (arith, le, is)

all_at_least : (few more : Snapshot) (ss : List Seat) → seen_by few ≤ seen_by more → AllByRecursion (SeesAtLeast more) ss → AllByRecursion (SeesAtLeast few) ss
all_at_least few more [] le all = tt
all_at_least few more (s ∷ ss) le all = (at_least few more (snapshot_in s.transaction) le all.0, all_at_least few more ss le all.1)

-- with one seat more
pub least_more : (seat : Seat) (rest : List Seat) (newest other least : Snapshot) → IsLeast rest newest other → IsFewer (snapshot_in seat.transaction) other least → IsLeast (seat ∷ rest) newest least
least_more seat rest newest other least is fewer = record {
  is = elim fewer.is [
    | inl same ↦ by_other (subst (λ (s : Snapshot). (s ≡ newest) ⊎ IsSeen rest s) (sym same) is.is)
    | inr own ↦ inr (inl own)
  ];
  first = omega (arith, fewer.second, is.first);
  least = (fewer.first, all_at_least least other rest fewer.second is.least);
}
  where
    by_other : (least ≡ newest) ⊎ IsSeen rest least → (least ≡ newest) ⊎ IsSeen (seat ∷ rest) least
    by_other (inl new) = inl new
    by_other (inr seen) = inr (inr seen)
