-- What a crash may leave while the two files are synced and read.
use Rattle.std.proofs.Common.{◌≡◌, ◌≤◌, ℕ, inl, inr, [], ◌∷◌, refl, sym, ap, subst, arith}
use Rattle.std.specs.Prelude.{Result, Ok, Err, OnOk, OnErr}
use Rattle.disk.proofs.Current.{syncs_left}
use Rattle.disk.specs.File.{File, IsContentLeft, Always, OnDb, OnLog, Throughout, whole, versions}
use Rattle.disk.specs.Calls.{Syncs, CountsFailure}
use Rattle.disk.proofs.Left.{left_synced}
use Rattle.disk.proofs.Moments.{elapses_refl, always_synced, always_weaker, always_end, stays}
use Rattle.wal.specs.Opened.{LeavesOld, LeavesAsBefore}

pub old_stays : (old new : File) → new ≡ old → Always old new (LeavesOld old)
old_stays old new same = stays (LeavesOld old) old new same (λ c left. inl left)

-- a sync, done or failed
pub old_synced : {T E : Type 0} (result : Result T E) (old new : File) → OnOk result (Syncs old new) → OnErr result (new ≡ old) → Always old new (LeavesOld old)
old_synced (Ok x) old new done failed = always_synced old old new (LeavesOld old) (elapses_refl old) refl done (λ c left. inl left) (λ c left. inr (left_synced (whole old.content) c left))
old_synced (Err e) old new done failed = old_stays old new failed

-- the database file, then the log
pub both_synced : (db log new_db new_log : File) → Always db new_db (LeavesOld db) → Always log new_log (LeavesOld log) → Throughout (LeavesAsBefore db log) db log new_db new_log
both_synced db log new_db new_log first second = (
  OnDb new_db ∷ OnLog new_log ∷ [],
  (
    always_weaker db new_db (λ vs. LeavesAsBefore db log vs (versions log)) (LeavesOld db) (λ vs all d l left_db left_log. (all d left_db, inl left_log)) first,
    (
      always_weaker log new_log (λ vs. LeavesAsBefore db log (versions new_db) vs) (LeavesOld log) (λ vs all d l left_db left_log. (always_end db new_db (LeavesOld db) first d left_db, all l left_log)) second,
      ((λ d l left_db left_log. (always_end db new_db (LeavesOld db) first d left_db, always_end log new_log (LeavesOld log) second l left_log)), refl, refl),
    ),
  ),
)

-- and then files that stay as they are
pub both_read : (db log mid_db mid_log new_db new_log : File) → Throughout (LeavesAsBefore db log) db log mid_db mid_log → new_db ≡ mid_db → new_log ≡ mid_log → Throughout (LeavesAsBefore db log) db log new_db new_log
both_read db log mid_db mid_log new_db new_log run same_db same_log =
    subst (λ (d : File). Throughout (LeavesAsBefore db log) db log d new_log) (sym same_db) (subst (λ (l : File). Throughout (LeavesAsBefore db log) db log mid_db l) (sym same_log) run)

-- what a crash may leave after a sync, done or failed
pub sync_left : {T E : Type 0} (result : Result T E) (old new : File) → OnOk result (Syncs old new) → OnErr result (new ≡ old) → IsContentLeft old → IsContentLeft new
sync_left (Ok x) old new done failed left = syncs_left old new done
sync_left (Err e) old new done failed left = subst IsContentLeft (sym failed) left

-- what it has then
pub sync_same : {T E : Type 0} (result : Result T E) (old new : File) → OnOk result (Syncs old new) → OnErr result (new ≡ old) → new.content ≡ old.content
sync_same (Ok x) old new done failed = done.content
sync_same (Err e) old new done failed = ap (λ (f : File). f.content) failed

-- and the count of failed calls
pub counts_up : {T E : Type 0} (result : Result T E) (old new : ℕ) → CountsFailure result old new → old ≤ new
counts_up (Ok x) old new count = omega (arith, count)
counts_up (Err e) old new (inl one) = omega (arith, one)
counts_up (Err e) old new (inr full) = omega (arith, full.1)
