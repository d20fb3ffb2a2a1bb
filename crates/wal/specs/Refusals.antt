-- Why calls are refused.
use Rattle.std.specs.Prelude.{◌≡◌, ℕ, Bool, IsTrue}
use Rattle.disk.specs.Calls.{Rose}
use Rattle.sqlval.specs.declared.fault.Fault.{Fault}
use Rattle.sqlval.specs.declared.fault.Fault.TheVariants.{Memory, Io, Failed, Full, Damaged, Unsupported}
use Rattle.sqlval.specs.declared.fault.Damage.TheVariants.{Page, Header, Size}
use Rattle.sqlval.specs.declared.fault.Feature.TheVariants.{PageSize, LogFormat, Limit}
use Rattle.wal.specs.LogState.{LogState}
use Rattle.wal.specs.Sizes.{IsWithinLimits}

-- these are no pages of a commit
abbrev pub IsPagesRefusal : Type 0 → Fault → Type 0
IsPagesRefusal ArePages (Damaged Page number) = ArePages → ⊥
IsPagesRefusal ArePages _ = ⊥

-- A commit of so many pages, in a database of this size, is within the limits.
abbrev pub IsWithin : LogState → ℕ → ℕ → Type 0
IsWithin known count size = IsWithinLimits known.frames known.page_size count size

-- A commit that was refused, between these two logs and their counts of failed calls: `Io` comes only where a call of the disk
-- failed, in a commit within the limits, and at any other refusal the log is as it was; `Failed` only where a call had failed
-- before, `Full` only where the commit isn't within the limits, and `Damaged` only where these are no pages of a commit.
abbrev pub IsCommitRefusal : {D : Type 0} → Bool → Type 0 → Type 0 → D → D → ℕ → ℕ → Fault → Type 0
IsCommitRefusal has_failed ArePages Within old new failed fails Io = Rose failed fails × Within
IsCommitRefusal has_failed ArePages Within old new failed fails Memory = new ≡ old
IsCommitRefusal has_failed ArePages Within old new failed fails Failed = (new ≡ old) × IsTrue has_failed
IsCommitRefusal has_failed ArePages Within old new failed fails Full = (new ≡ old) × (Within → ⊥)
IsCommitRefusal has_failed ArePages Within old new failed fails (Damaged Page number) = (new ≡ old) × (ArePages → ⊥)
IsCommitRefusal has_failed ArePages Within old new failed fails _ = ⊥

-- A cut of the log that was refused: `Io` only where a call of the disk failed, and `Failed` only where one had failed before.
abbrev pub IsCutRefusal : {D : Type 0} → Bool → D → D → ℕ → ℕ → Fault → Type 0
IsCutRefusal has_failed old new failed fails Io = Rose failed fails
IsCutRefusal has_failed old new failed fails Failed = (new ≡ old) × IsTrue has_failed
IsCutRefusal has_failed old new failed fails _ = ⊥

-- Why files are not opened: `Memory`; `Io` only where a call of a disk failed; and any other only where the contents can't be opened.
abbrev pub IsOpenRefusal : Type 0 → Type 0 → Fault → Type 0
IsOpenRefusal call_failed cannot_open Memory = Unit {0}
IsOpenRefusal call_failed cannot_open Io = call_failed
IsOpenRefusal call_failed cannot_open (Damaged Header number) = (number ≡ 0) × cannot_open
IsOpenRefusal call_failed cannot_open (Damaged Size number) = (number ≡ 0) × cannot_open
IsOpenRefusal call_failed cannot_open (Unsupported PageSize) = cannot_open
IsOpenRefusal call_failed cannot_open (Unsupported LogFormat) = cannot_open
IsOpenRefusal call_failed cannot_open (Unsupported Limit) = cannot_open
IsOpenRefusal call_failed cannot_open _ = ⊥
