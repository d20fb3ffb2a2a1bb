-- What connections answer before they look at a statement, and what they hold.
use Rattle.std.specs.Prelude.{◌≡◌, ◌⊎◌, ◌<◌, ℕ, Bool, true, false, Result, Ok, Err, ◌==◌, ◌||◌, nat_lt, ⊤, IsTrue, if◌then◌else◌}
use Rattle.disk.specs.declared.device.Disk.{Ghosts}
use Rattle.sqlval.specs.declared.fault.Fault.{Fault}
use Rattle.sqlval.specs.declared.fault.Fault.TheVariants.{Failed, Io, Misuse}
use Rattle.sqlval.specs.declared.fault.Misuse.TheVariants.{Connection}
use Rattle.session.specs.declared.transactions.Connections.{Connections}
use Rattle.pages.specs.Calls.{Causes}
use Rattle.pager.specs.Sights.{failures_of}
use Rattle.wal.specs.declared.log.Log.{Log}

-- no connection has this number
abbrev pub IsNoConnection : ℕ → Type 0
IsNoConnection connection = (connection ≡ 0) ⊎ (16 < connection)

-- The first refusal: an engine whose commit or checkpoint failed answers nothing else, and a connection's number is from 1 to 16.
abbrev pub first_refusal : Bool → ℕ → Result ⊤ Fault
first_refusal has_failed connection = if has_failed then Err Failed else (if connection == 0 || nat_lt 16 connection then Err (Misuse Connection) else Ok tt)

-- a call of a disk has failed
abbrev pub is_io : Fault → Bool
is_io Io = true
is_io _ = false

module _ {D : Type 0} {g : Ghosts D} where
  -- The counts of the two files' failed calls haven't fallen. A refusal has its cause: `Io` comes only where one of them rose, `Full` only
  -- where it may.
  abbrev pub HasCause : {T : Type 0} → Bool → Result T Fault → Log D g → Log D g → Type 0
  HasCause may_be_full result old new = Causes result (failures_of old) (failures_of new) (IsTrue may_be_full)

  -- a commit or a checkpoint has failed, so that the files are to be opened anew
  abbrev pub has_failed_in : Connections D g → Bool
  has_failed_in connections = connections.has_failed

  -- the database file and its log
  abbrev pub files_of : Connections D g → Log D g
  files_of connections = connections.log

  -- the same of connections
  abbrev pub HasCauseIn : {T : Type 0} → Bool → Result T Fault → Connections D g → Connections D g → Type 0
  HasCauseIn may_be_full result old new = HasCause may_be_full result (files_of old) (files_of new)
