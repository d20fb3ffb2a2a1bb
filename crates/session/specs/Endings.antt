-- What RAISE(ROLLBACK) leaves of its connection's transaction (SQL As Understood By SQLite, "CREATE TRIGGER", "The RAISE() function").
use Rattle.std.specs.Prelude.{ℕ, Bool, false}
use Rattle.sqlval.specs.declared.fault.Fault.{Fault}
use Rattle.sqlval.specs.declared.fault.Fault.TheVariants as fault
use Rattle.session.specs.Machine.{Machine, Reply, Rows, Refused}
use Rattle.session.specs.Outcomes.{answered, left_by}

-- a reply as the connection gives it
abbrev pub as_answered : Reply → Reply
as_answered (Rows rows) = Rows rows
as_answered (Refused r) = Refused (answered r)

-- the machine once the connection has given it
abbrev pub once_answered : Machine → ℕ → Reply → Machine
once_answered m c (Rows rows) = m
once_answered m c (Refused r) = left_by m c r

-- it ends the transaction
abbrev pub ends_transaction : Fault → Bool
ends_transaction (fault.Raised raised) = raised.ends
ends_transaction _ = false

-- a fault whose transaction has ended: it ends none any more
abbrev pub without_end : Fault → Fault
without_end (fault.Raised raised) = fault.Raised (record raised { ends = false })
without_end f = f
