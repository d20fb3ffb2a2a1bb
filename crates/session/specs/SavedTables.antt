-- The tables that a transaction sees, and those that its savepoints go back to (SQL As Understood By SQLite, "SAVEPOINT").
use Rattle.std.specs.Prelude.{◌≡◌, ◌<◌, ◌+◌, ◌++◌, ℕ, Bool, true, false, List, [], ◌∷◌, length, drop, take, map, None, Option, option_map, nat_lt, slice_index_or, unwrap_or}
use Rattle.std.specs.List.{list_any}
use Rattle.sqlval.specs.Names.{is_same_name}
use Rattle.catalog.specs.Database.{Name}
use Rattle.catalog.specs.Listed.{listed_in, Listed}
use Rattle.catalog.specs.declared.tables.Catalog.{Catalog}
use Rattle.std.specs.declared.alloc.Global.{Global}
use Rattle.std.specs.declared.rc.Rc.{Rc}
use Rattle.session.specs.declared.savepoints.SavedCatalogs.{SavedCatalogs}
use Rattle.session.specs.declared.savepoints.Savepoint.{Savepoint}

-- a savepoint's name as it was written, and the tables that there were when it was made
pub record SavedTables : Type 0 where
  pub name : Name
  pub tables : Listed

-- what is kept of a transaction's savepoints: whether one of them began it, and each, the newest last
pub record Savepoints : Type 0 where
  pub began : Bool
  pub points : List SavedTables

-- a savepoint has this name
abbrev pub is_called : Name → Savepoint → Bool
is_called name s = is_same_name s.name name

-- these tables, or those that they were changed to
abbrev pub changed_to : Listed → Option (Rc Catalog Global) → Listed
changed_to tables changed = unwrap_or (option_map (λ shared. listed_in shared.value) changed) tables

-- the tables after the changes of these savepoints
abbrev pub tables_after : Listed → List Savepoint → Listed
tables_after tables [] = tables
tables_after tables (s ∷ ss) = tables_after (changed_to tables s.changed) ss

-- each of these savepoints with the tables that there were when it was made
abbrev pub saved_after : Listed → List Savepoint → List SavedTables
saved_after tables [] = []
saved_after tables (s ∷ ss) = record { name = s.name; tables = tables } ∷ saved_after (changed_to tables s.changed) ss

-- the tables of the snapshot that the transaction reads on
abbrev pub committed_in : SavedCatalogs → Listed
committed_in saved = listed_in saved.committed.value

-- the tables as they were changed before the first savepoint
abbrev pub first_in : SavedCatalogs → Listed
first_in saved = changed_to (committed_in saved) saved.changed

-- the tables that an open transaction sees
abbrev pub current_in : SavedCatalogs → Listed
current_in saved = tables_after (first_in saved) saved.savepoints.items

-- its savepoints
abbrev pub savepoints_in : SavedCatalogs → Savepoints
savepoints_in saved = record { began = saved.began; points = saved_after (first_in saved) saved.savepoints.items }

-- the transaction has made and dropped no table
abbrev pub IsUnchanged : SavedCatalogs → Type 0
IsUnchanged saved = current_in saved ≡ committed_in saved

-- there is no savepoint
abbrev pub HasNoSavepoints : SavedCatalogs → Type 0
HasNoSavepoints saved = savepoints_in saved ≡ record { began = false; points = [] }

-- there may be one more
abbrev pub HasRoom : SavedCatalogs → Type 0
HasRoom saved = nat_lt 63 (length (savepoints_in saved).points) ≡ false

-- the savepoints' names
abbrev pub names_in : SavedCatalogs → List Name
names_in saved = map (λ s. s.name) (savepoints_in saved).points

-- this place has the name, and none after it has it
pub record IsNewestNamed (name : Name) (names : List Name) (place : ℕ) : Type 0 where
  pub within : place < length names
  pub named : (d : Name) → is_same_name (slice_index_or names place d) name ≡ true
  pub last : list_any (λ other. is_same_name other name) (drop (place + 1) names) ≡ false

-- the tables and the savepoints are what they were
pub record KeepsTables (old new : SavedCatalogs) : Type 0 where
  pub current : current_in new ≡ current_in old
  pub committed : committed_in new ≡ committed_in old
  pub savepoints : savepoints_in new ≡ savepoints_in old

-- the tables that there were at a savepoint are those that the transaction sees now, and it is the newest
pub record GoesBackTo (place : ℕ) (old new : SavedCatalogs) : Type 0 where
  pub current : (d : SavedTables) → current_in new ≡ (slice_index_or (savepoints_in old).points place d).tables
  pub committed : committed_in new ≡ committed_in old
  pub savepoints : savepoints_in new ≡ record { began = (savepoints_in old).began; points = take (place + 1) (savepoints_in old).points }

-- a savepoint and those made after it are gone, and nothing else has changed
pub record ReleasesFrom (place : ℕ) (old new : SavedCatalogs) : Type 0 where
  pub current : current_in new ≡ current_in old
  pub committed : committed_in new ≡ committed_in old
  pub savepoints : savepoints_in new ≡ record { began = (savepoints_in old).began; points = take place (savepoints_in old).points }

-- there is a newest savepoint of that name, which goes back to the tables that the transaction sees; whether it began the transaction
pub record AddsSavepoint (name : Name) (began : Bool) (old new : SavedCatalogs) : Type 0 where
  pub current : current_in new ≡ current_in old
  pub committed : committed_in new ≡ committed_in old
  pub savepoints : savepoints_in new ≡ record { began = began; points = (savepoints_in old).points ++ record { name = name; tables = current_in old } ∷ [] }

-- a savepoint after which the tables weren't changed
abbrev pub unchanged : Savepoint → Savepoint
unchanged s = record s { changed = None }

-- the savepoints, where there were these tables when each was made
abbrev pub rebased : Listed → Savepoints → Savepoints
rebased tables saved = record { began = saved.began; points = map (λ p. record { name = p.name; tables = tables }) saved.points }

-- the transaction, and each of its savepoints, goes on from these tables
pub record Rebases (tables : Listed) (old new : SavedCatalogs) : Type 0 where
  pub current : current_in new ≡ tables
  pub committed : committed_in new ≡ tables
  pub savepoints : savepoints_in new ≡ rebased tables (savepoints_in old)
