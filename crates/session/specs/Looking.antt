-- What a connection is told of the schema, without a statement (Database File Format, "Storage Of The SQL Database Schema").
use Rattle.std.specs.Prelude.{◌≡◌, ℕ, map, MatchResult, Option, Result, Vec}
use Rattle.std.specs.declared.alloc.Global.{Global}
use Rattle.smallvec.specs.SmallVec.{SmallVec}
use Rattle.disk.specs.declared.device.Disk.{Ghosts}
use Rattle.sqlval.specs.Faults.{IsOutside}
use Rattle.sqlval.specs.declared.fault.Fault.{Fault}
use Rattle.sqlval.specs.declared.value.Value.{Value}
use Rattle.sql_syntax.specs.declared.query.Query.{Query}
use Rattle.catalog.specs.Database.{Database, Name}
use Rattle.query_names.specs.Named.{NamesBy}
use Rattle.row_scan.specs.Rows.{values_of}
use Rattle.executor_schema.specs.Told.{TellAll, columns_named}
use Rattle.session.specs.ConnectionState.{files_of}
use Rattle.session.specs.Crashes.{MayShow}
use Rattle.session.specs.Holding.{HoldThroughout}
use Rattle.session.specs.Machine.{Machine, Connection, InTransactionOf, Reads, Writes, committed, connection, newest}
use Rattle.session.specs.Representation.{Represents, RepresentsRunning}
use Rattle.session.specs.declared.transactions.Connections.{Connections}

-- the database that a connection sees before a statement
abbrev pub database_seen : Machine → Connection → Database
database_seen m (InTransactionOf b ss (Reads i)) = committed m i
database_seen m (InTransactionOf b ss (Writes i db)) = db
database_seen m _ = newest m

-- the rows that a call found tell all of this database; or memory was short, or a disk's call failed
abbrev pub TellsAllOf : Result (Vec (SmallVec Value) Global) Fault → Database → Type 0
TellsAllOf result db = MatchResult result (λ rows. TellAll db (map values_of rows.items)) IsOutside

-- what a call found are the names of the query's columns on this database, or its refusal is one of the query's
abbrev pub NamesColumnsOf : Query → Result (Vec (Option Name) Global) Fault → Database → Type 0
NamesColumnsOf query result db = NamesBy (λ names. names.items) (columns_named db query) result

module _ {D : Type 0} {g : Ghosts D} where
  -- the machine is shown, and the connection of this number is the present one
  pub record IsPresentIn (m : Machine) (n : ℕ) (c : Connections D g) : Type 0 where
    pub shown : RepresentsRunning c m
    pub number : c.connection ≡ n

  -- A connection only looks: the machine that was shown is shown still, at each moment a crash leaves what it may show, and what is told fits the
  -- database that the connection sees.
  pub record LooksAt (Fits : Database → Type 0) (old : Connections D g) (m : Machine) (n : ℕ) (new : Connections D g) : Type 0 where
    pub shown : Represents new m
    pub crash : HoldThroughout (MayShow m m) (files_of old) (files_of new)
    pub fits : Fits (database_seen m (connection m n))

  -- the same from each machine that was shown
  abbrev pub Looks : (Database → Type 0) → Connections D g → ℕ → Connections D g → Type 0
  Looks Fits old n new = (m : Machine) → Represents old m → LooksAt Fits old m n new
