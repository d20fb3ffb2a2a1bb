-- Seats with the same transactions.
use Rattle.std.proofs.Common.{◌≡◌, ◌≤◌, inl, inr, refl, sym, ap, subst, ◌∙◌, ℕ, zero, suc, List, [], ◌∷◌, map, Bool}
use Rattle.std.specs.Prelude.{◌||◌, ⊤, IsFalse, IsTrue, MatchOption, Some, OnOk, IfOk, Result, slice_get, slice_set, not}
use Rattle.std.specs.List.{AllByRecursion, list_any}
use Rattle.disk.specs.declared.device.Disk.{Ghosts}
use Rattle.sqlval.specs.declared.fault.Fault.{Fault}
use Rattle.sql_syntax.specs.declared.statement.CheckpointMode.{CheckpointMode}
use Rattle.sql_syntax.specs.declared.statement.CheckpointMode.TheVariants as modes
use Rattle.wal.specs.Anew.{begins_anew}
use Rattle.wal.specs.Copies.{after_copying}
use Rattle.wal.specs.LogState.{log_of, seen_by, state_of}
use Rattle.wal.specs.declared.log.Log.{Log}
use Rattle.wal.specs.declared.log.Snapshot.{Snapshot}
use Rattle.wal_checkpoint.specs.Shown.{Checkpoints}
use Rattle.wal_checkpoint.specs.declared.checkpoints.Counts.{Counts}
use Rattle.session.specs.CopiedBack.{CopiesBack, answer_of, may_restart}
use Rattle.session.specs.Machine.{Machine}
use Rattle.session.specs.Representation.{BeginsLog}
use Rattle.session.specs.Seats.{IsLeast, IsSeen, SeesAtLeast, holds_snapshot, sees_snapshot, snapshot_in}
use Rattle.session.specs.declared.seats.Seat.{Seat}
use Rattle.session.specs.declared.seats.Transaction.{Transaction}

-- their transactions, in order
abbrev pub transactions_of : List Seat → List Transaction
transactions_of = map (λ (s : Seat). s.transaction)

heads : (a b : Transaction) (us vs : List Transaction) → (a ∷ us) ≡ (b ∷ vs) → a ≡ b
heads a b us vs is = cc

tails : (a b : Transaction) (us vs : List Transaction) → (a ∷ us) ≡ (b ∷ vs) → us ≡ vs
tails a b us vs is = cc

-- a seat in the place of one with the same transaction
pub set_alike : (ss : List Seat) (i : ℕ) (x : Seat) → ((s : Seat) → slice_get ss i ≡ Some s → s.transaction ≡ x.transaction) → transactions_of (slice_set ss i x) ≡ transactions_of ss
set_alike [] zero x same = refl
set_alike [] (suc i) x same = refl
set_alike (s ∷ ss) zero x same = ap (λ t. t ∷ transactions_of ss) (sym (same s refl))
set_alike (s ∷ ss) (suc i) x same = ap (λ ts. s.transaction ∷ ts) (set_alike ss i x same)

-- one of two such seats in a place
pub set_other : (ss : List Seat) (i : ℕ) (x y : Seat) → x.transaction ≡ y.transaction → transactions_of (slice_set ss i x) ≡ transactions_of (slice_set ss i y)
set_other [] zero x y same = refl
set_other [] (suc i) x y same = refl
set_other (s ∷ ss) zero x y same = ap (λ t. t ∷ transactions_of ss) same
set_other (s ∷ ss) (suc i) x y same = ap (λ ts. s.transaction ∷ ts) (set_other ss i x y same)

pub alike_any : (xs ys : List Seat) → transactions_of xs ≡ transactions_of ys → list_any holds_snapshot xs ≡ list_any holds_snapshot ys
alike_any [] [] same = refl
alike_any [] (y ∷ ys) same = absurd cc
alike_any (x ∷ xs) [] same = absurd cc
alike_any (x ∷ xs) (y ∷ ys) same =
    ap (λ t. sees_snapshot t || list_any holds_snapshot xs) (heads x.transaction y.transaction (transactions_of xs) (transactions_of ys) same)
    ∙ ap (λ b. holds_snapshot y || b) (alike_any xs ys (tails x.transaction y.transaction (transactions_of xs) (transactions_of ys) same))

alike_seen : (xs ys : List Seat) (s : Snapshot) → transactions_of xs ≡ transactions_of ys → IsSeen xs s → IsSeen ys s
alike_seen [] ys s same seen = absurd seen
alike_seen (x ∷ xs) [] s same seen = absurd cc
alike_seen (x ∷ xs) (y ∷ ys) s same (inl here) = inl (subst (λ (t : Transaction). snapshot_in t ≡ Some s) (heads x.transaction y.transaction (transactions_of xs) (transactions_of ys) same) here)
alike_seen (x ∷ xs) (y ∷ ys) s same (inr rest) = inr (alike_seen xs ys s (tails x.transaction y.transaction (transactions_of xs) (transactions_of ys) same) rest)

alike_least : (xs ys : List Seat) (target : Snapshot) → transactions_of xs ≡ transactions_of ys → AllByRecursion (SeesAtLeast target) xs → AllByRecursion (SeesAtLeast target) ys
alike_least [] [] target same all = tt
alike_least [] (y ∷ ys) target same all = absurd cc
alike_least (x ∷ xs) [] target same all = absurd cc
alike_least (x ∷ xs) (y ∷ ys) target same all = (
  subst (λ (t : Transaction). MatchOption (snapshot_in t) (⊤) (λ s. seen_by target ≤ seen_by s)) (heads x.transaction y.transaction (transactions_of xs) (transactions_of ys) same) all.0,
  alike_least xs ys target (tails x.transaction y.transaction (transactions_of xs) (transactions_of ys) same) all.1,
)

least_alike : (xs ys : List Seat) (newest target : Snapshot) → transactions_of xs ≡ transactions_of ys → IsLeast xs newest target → IsLeast ys newest target
least_alike xs ys newest target same least = record {
  is = elim least.is [
    | inl here ↦ inl here
    | inr seen ↦ inr (alike_seen xs ys target same seen)
  ];
  first = least.first;
  least = alike_least xs ys target same least.least;
}

module _ {D : Type 0} {g : Ghosts D} where
  -- what was copied beside the ones was copied beside the others
  pub alike_copies : (mode : CheckpointMode) (xs ys : List Seat) (old : Log D g) (result : Result Counts Fault) (new : Log D g) → transactions_of xs ≡ transactions_of ys → CopiesBack mode xs old result new → CopiesBack mode ys old result new
  alike_copies mode xs ys old result new same copies =
      let any = alike_any xs ys same in
      record {
        newest = copies.newest;
        newest_is = copies.newest_is;
        target = copies.target;
        least = least_alike xs ys copies.newest copies.target same copies.least;
        done = λ may. subst (λ (b : Bool). OnOk result (Checkpoints old copies.target (may_restart mode b) new)) any (copies.done may);
        crash = copies.crash;
        refused = copies.refused;
        counts = subst (λ (b : Bool). IfOk result (λ counts. counts ≡ answer_of mode b (state_of old) copies.target)) any copies.counts;
        few = copies.few;
        copied = subst (λ (b : Bool). OnOk result (IsFalse (may_restart mode b) → state_of new ≡ after_copying (state_of old) copies.target)) any copies.copied;
        gone = λ may. subst (λ (b : Bool). OnOk result (IsTrue (may_restart mode b) → ((state_of new).frames ≡ 0) × (mode ≡ modes.Truncate → (g.file (log_of new)).content ≡ []))) any (copies.gone may);
        header = copies.header;
      }

  -- and a log that begins anew beside the ones begins anew beside the others
  pub alike_begins : (xs ys : List Seat) (old : Log D g) (m next : Machine) (new : Log D g) → transactions_of xs ≡ transactions_of ys → BeginsLog xs old m next new → BeginsLog ys old m next new
  alike_begins xs ys old m next new same begins more anew = begins more (subst (λ (b : Bool). IsTrue (begins_anew (state_of old) (not b))) (sym (alike_any xs ys same)) anew)
