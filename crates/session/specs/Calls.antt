-- What a call of a connection by its number comes to.
use Rattle.std.specs.Prelude.{◌≡◌, ◌⊎◌, ⊤, ℕ, IfErr, Result, Err}
use Rattle.disk.specs.declared.device.Disk.{Ghosts}
use Rattle.sqlval.specs.declared.fault.Fault.{Fault}
use Rattle.sql_syntax.specs.declared.statement.Statement.{Statement}
use Rattle.session.specs.ConnectionState.{HasCauseIn, first_refusal, has_failed_in}
use Rattle.session.specs.Failing.{IsRefusedFor, MarksFailure}
use Rattle.session.specs.Limits.{may_be_full}
use Rattle.session.specs.Representation.{Steps, done_reply}
use Rattle.session.specs.declared.transactions.Connections.{Connections}

module _ {D : Type 0} {g : Ghosts D} where
  -- The call does what this statement of the connection does: it is a step of each machine that was represented, and its refusal has its cause.
  pub record IsCallOf (statement : Statement) (old : Connections D g) (connection : ℕ) (result : Result ⊤ Fault) (new : Connections D g) : Type 0 where
    pub step : Steps old connection statement (done_reply result) new
    pub cause : HasCauseIn (may_be_full statement) result old new
    pub marks : MarksFailure result old new
    pub refused : IfErr result (IsRefusedFor old connection statement)

  -- the call is refused as any other of this connection, or so
  abbrev pub IsRefusedOnly : Fault → Connections D g → ℕ → Result ⊤ Fault → Type 0
  IsRefusedOnly why old connection result = IfErr result (λ fault. (first_refusal (has_failed_in old) connection ≡ Err fault) ⊎ (fault ≡ why))
