-- Where a log has what a crash may leave of it, while it is cut, gets its header, and grows.
use Rattle.std.proofs.Common.{◌≡◌, ◌⊎◌, ℕ, List, sym, subst}
use Rattle.std.specs.Prelude.{Result, Ok, Err, OnOk, OnErr}
use Rattle.disk.specs.File.{File, IsSynced, IsCurrent, IsContentLeft}
use Rattle.disk.specs.Calls.{Writes, FailsToWrite, Syncs}
use Rattle.disk.proofs.Current.{current_left, synced_current, synced_left, syncs_left, write_left, writes_current}

pub as_it_was : (old new : File) → new ≡ old → IsSynced old → IsContentLeft new
as_it_was old new same synced = subst IsContentLeft (sym same) (synced_left old synced)

then_settled : {T E : Type 0} (result : Result T E) (mid new : File) → IsCurrent mid → OnOk result (Syncs mid new) → OnErr result (new ≡ mid) → IsContentLeft new
then_settled (Ok x) mid new is done failed = syncs_left mid new done
then_settled (Err e) mid new is done failed = subst IsContentLeft (sym failed) (current_left mid is)

pub write_then_left : {T E : Type 0} (result : Result T E) (old mid new : File) (at : ℕ) (bytes : List ℕ) → Writes at bytes old mid → OnOk result (Syncs mid new) → OnErr result (new ≡ mid) → IsContentLeft new
write_then_left result old mid new at bytes writes done failed = then_settled result mid new (writes_current at bytes old mid writes) done failed

pub failed_write_left : (old new : File) (at : ℕ) (bytes : List ℕ) → (new ≡ old) ⊎ FailsToWrite at bytes old new → IsSynced old → IsContentLeft new
failed_write_left old new at bytes failed synced = write_left at bytes old new (synced_current old synced) failed
