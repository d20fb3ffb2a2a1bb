-- A step of an engine whose records have a greatest length, and whose schema table a greatest rowid (SQLite's "Database File Format", sections 2.1
-- and 2.6).
use Rattle.std.specs.Prelude.{◌≡◌, false, ◌⊎◌, ℕ}
use Rattle.sqlval.specs.Refusals.{Refusal, refusal_of}
use Rattle.sqlval.specs.declared.fault.Fault.{Fault}
use Rattle.sql_syntax.specs.declared.statement.Statement.{Statement}
use Rattle.catalog.specs.Database.{Database}
use Rattle.executor_programs.specs.Making.{IsBeyond}
use Rattle.session.specs.Machine.{Machine, Connection, InTransactionOf, Reads, Writes, Reply, Refused, committed, connection, newest}
use Rattle.session.specs.Steps.{Step}

-- the database that a connection's statement sees
abbrev pub database_of : Machine → Connection → Database
database_of m (InTransactionOf b ss (Writes i db)) = db
database_of m (InTransactionOf b ss (Reads i)) = committed m i
database_of m _ = newest m

-- no record can hold a row of the schema table or an entry that the statement makes on the database, or no rowid is free for such a row
abbrev pub CannotStore : Statement → Database → Refusal → Type 0
CannotStore s db r = (f : Fault) × (r ≡ refusal_of f) × IsBeyond s db f

-- A step; or, where what the statement makes on what it sees can't be stored, its refusal, after the engine's failure and the connection's
-- number.
abbrev pub StepOrTooLong : Machine → ℕ → Statement → Reply → Machine → Type 0
StepOrTooLong m c s reply new =
    Step m c s reply new
    ⊎ (r : Refusal) × (reply ≡ Refused r) × (new ≡ m) × (m.failed ≡ false) × CannotStore s (database_of m (connection m c)) r
