-- The engine as a machine: its committed databases, and its connections (Isolation In SQLite; SQL As Understood By SQLite, "BEGIN TRANSACTION", "SAVEPOINT").
use Rattle.std.specs.Prelude.{ℕ, zero, suc, ◌-◌, Bool, true, false, List, [], ◌∷◌, length, Option, None, unwrap_or, slice_get, slice_set}
use Rattle.std.specs.List.{list_any}
use Rattle.sqlval.specs.Refusals.{Refusal}
use Rattle.sqlval.specs.declared.value.Value.{Value}
use Rattle.catalog.specs.Database.{Name, Database}

-- a savepoint, with the database to go back to
pub record SavepointState : Type 0 where
  -- folded
  pub name : Name
  -- none where it was made before the first write: the snapshot's database
  pub working : Option Database

-- how far a transaction's view of the database is settled
pub data Phase : Type 0 where
  NoSnapshot : Phase
  -- on the committed database of that place
  Reads : ℕ → Phase
  Writes : ℕ → Database → Phase

-- a connection, in a transaction or not
pub data Connection : Type 0 where
  Idle : Connection
  -- whether SAVEPOINT began it, and the savepoints, the newest first
  InTransactionOf : Bool → List SavepointState → Phase → Connection

-- the whole state
pub record Machine : Type 0 where
  -- the committed databases in their order; there is at least one
  pub history : List Database
  pub connections : List Connection
  pub failed : Bool
  pub in_doubt : Option Database

-- rows, none for a statement that answers ok alone, or a refusal
pub data Reply : Type 0 where
  Rows : List (List Value) → Reply
  Refused : Refusal → Reply

-- the place of the newest committed database
abbrev pub last_place : Machine → ℕ
last_place m = length m.history - 1

-- the committed database of a place
abbrev pub committed : Machine → ℕ → Database
committed m i = unwrap_or (slice_get m.history i) []

-- the last one committed
abbrev pub newest : Machine → Database
newest m = committed m (last_place m)

-- a connection by its number, from 1 on
abbrev pub connection : Machine → ℕ → Connection
connection m c = unwrap_or (slice_get m.connections (c - 1)) Idle

-- the machine with another state of a connection
abbrev pub with_connection : Machine → ℕ → Connection → Machine
with_connection m c k = record m { connections = slice_set m.connections (c - 1) k }

-- it holds the write right
abbrev pub is_writing : Connection → Bool
is_writing (InTransactionOf b ss (Writes i db)) = true
is_writing _ = false

-- it reads a committed database
abbrev pub has_snapshot : Connection → Bool
has_snapshot (InTransactionOf b ss (Reads i)) = true
has_snapshot (InTransactionOf b ss (Writes i db)) = true
has_snapshot _ = false

-- whether a connection other than c is so
abbrev pub another : (Connection → Bool) → Machine → ℕ → Bool
another p m c = list_any p (slice_set m.connections (c - 1) Idle)

abbrev pub idle : ℕ → List Connection
idle zero = []
idle (suc n) = Idle ∷ idle n

-- what create and open give: 16 idle connections
abbrev pub fresh : Database → Machine
fresh db = record { history = db ∷ []; connections = idle 16; failed = false; in_doubt = None }
