-- What a checkpoint of each mode comes to.
use Rattle.std.proofs.Common.{◌≡◌, ◌∙◌, ◌≤◌, inl, inr, refl, ap, Bool, List, true, false}
use Rattle.std.specs.Prelude.{not, IsFalse, IsTrue, Result, Ok, Err, IfOk, OnOk, if◌then◌else◌}
use Rattle.std.specs.List.{list_any}
use Rattle.std.proofs.lemmas.Bool.{false≢true}
use Rattle.disk.specs.declared.device.Disk.{Ghosts}
use Rattle.sqlval.specs.declared.fault.Fault.{Fault}
use Rattle.sql_syntax.specs.declared.statement.CheckpointMode.TheVariants as modes
use Rattle.wal.specs.ErrorCauses.{HasCause as CausesOf}
use Rattle.wal.specs.LogState.{LogState, seen_by, state_of}
use Rattle.wal.specs.declared.log.Log.{Log}
use Rattle.wal.specs.declared.log.Snapshot.{Snapshot}
use Rattle.wal_checkpoint.specs.Answers.{counts_of, no_counts}
use Rattle.wal_checkpoint.specs.declared.checkpoints.Counts.{Counts}
use Rattle.session.specs.ConnectionState.{HasCause}
use Rattle.session.specs.CopiedBack.{answer_of, may_restart}
use Rattle.session.specs.Seats.{IsLeast, holds_snapshot}
use Rattle.session.specs.Writers.{IsNewest}
use Rattle.session.specs.declared.seats.Seat.{Seat}
use Rattle.session.proofs.Copied.{none_seen}

-- so it is answered by the functions of `wal_checkpoint`
abbrev Answers : Bool → LogState → Snapshot → Counts → Type 0
Answers blocked known target counts = (counts ≡ counts_of blocked known target) × (counts.copied ≤ counts.frames)

pub few_are : (P : Counts → Type 0) (result : Result Counts Fault) → IfOk result (λ counts. P counts × (counts.copied ≤ counts.frames)) → IfOk result (λ counts. counts.copied ≤ counts.frames)
few_are P (Ok counts) is = is.1
few_are P (Err f) is = tt

pub passive_counts : (others : Bool) (known : LogState) (target : Snapshot) (result : Result Counts Fault) → IfOk result (Answers false known target) → IfOk result (λ counts. counts ≡ answer_of modes.Passive others known target)
passive_counts others known target (Ok counts) is = is.0
passive_counts others known target (Err f) is = tt

-- a connection is kept from it where it isn't alone
pub restart_counts : (others : Bool) (known : LogState) (target : Snapshot) (result : Result Counts Fault) → IfOk result (Answers (not (not others)) known target) → IfOk result (λ counts. counts ≡ answer_of modes.Restart others known target)
restart_counts true known target (Ok counts) is = is.0
restart_counts false known target (Ok counts) is = is.0
restart_counts others known target (Err f) is = tt

pub truncate_counts : (others : Bool) (known : LogState) (target : Snapshot) (result : Result Counts Fault)
    → IfOk result (λ counts. (counts ≡ (if not others then no_counts else counts_of true known target)) × (counts.copied ≤ counts.frames)) → IfOk result (λ counts. counts ≡ answer_of modes.Truncate others known target)
truncate_counts true known target (Ok counts) is = is.0
truncate_counts false known target (Ok counts) is = is.0
truncate_counts others known target (Err f) is = tt

-- where nothing else is known of the log
pub known_alone : (P Q : Type 0) (b : Bool) (result : Result Counts Fault) → OnOk result (IsFalse b → P × Q) → OnOk result (IsFalse b → P)
known_alone P Q b (Ok counts) known = λ kept. (known kept).0
known_alone P Q b (Err f) known = tt

pub known_always : (P Q : Type 0) (b : Bool) (result : Result Counts Fault) → OnOk result (P × Q) → OnOk result (IsFalse b → P)
known_always P Q b (Ok counts) known = λ kept. known.0
known_always P Q b (Err f) known = tt

never_gone : (P : Type 0) (result : Result Counts Fault) → OnOk result (IsTrue false → P)
never_gone P (Ok counts) = λ is. absurd (false≢true is)
never_gone P (Err f) = tt

pub passive_gone : (P : Type 0) (others : Bool) (result : Result Counts Fault) → OnOk result (IsTrue (may_restart modes.Passive others) → P)
passive_gone P others result = never_gone P result

pub restart_gone : (P Q : Type 0) (b : Bool) (result : Result Counts Fault) → OnOk result (IsTrue b → P) → OnOk result (IsTrue b → P × (modes.Restart ≡ modes.Truncate → Q))
restart_gone P Q b (Ok counts) gone = λ is. (gone is, λ other. absurd (differ other))
  where
    differ : modes.Restart ≡ modes.Truncate → ⊥
    differ e = absurd cc
restart_gone P Q b (Err f) gone = tt

pub truncate_gone : (P Q Told : Type 0) (b : Bool) (result : Result Counts Fault) → Told → OnOk result (IsTrue b → P × (Told → Q)) → OnOk result (IsTrue b → P × (modes.Truncate ≡ modes.Truncate → Q))
truncate_gone P Q Told b (Ok counts) told gone = λ is. ((gone is).0, λ same. (gone is).1 told)
truncate_gone P Q Told b (Err f) told gone = tt

-- the mode isn't passive
pub not_passive : {P : Type 0} → modes.Restart ≡ modes.Passive → P
not_passive e = absurd cc

pub cut_not_passive : {P : Type 0} → modes.Truncate ≡ modes.Passive → P
cut_not_passive e = absurd cc

-- where none of the seats sees a snapshot, the fewest frames that one sees are all
pub sees_all : {D : Type 0} {g : Ghosts D} (old : Log D g) (seats : List Seat) (newest target : Snapshot) → IsNewest old newest → IsLeast seats newest target → IsTrue (not (list_any holds_snapshot seats)) → seen_by target ≡ (state_of old).frames
sees_all old seats newest target is_newest least alone = elim least.is [
  | inl same ↦ ap seen_by same ∙ is_newest.seen
  | inr seen ↦ absurd (none_seen seats target (none_is (list_any holds_snapshot seats) alone) seen)
]
  where
    none_is : (b : Bool) → not b ≡ true → b ≡ false
    none_is true is = absurd (false≢true is)
    none_is false is = refl

-- a refusal's cause, as the connections say it
pub causes_so : {D T : Type 0} {g : Ghosts D} (result : Result T Fault) (old new : Log D g) → CausesOf false result old new → HasCause false result old new
causes_so (Ok x) old new has = record { db = has.db_counts; log = has.log_counts; why = tt }
causes_so (Err f) old new has = record { db = has.db_counts; log = has.log_counts; why = record { io = has.why.io; full = has.why.full } }
