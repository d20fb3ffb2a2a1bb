-- The savepoints of the machine's first connection, and what the connections keep of each (SQL As Understood By SQLite, "SAVEPOINT").
use Rattle.std.specs.Prelude.{◌≡◌, ◌+◌, ◌++◌, ◌∷◌, ⊤, ℕ, List, [], map, reverse, take, None, slice_index_or, unwrap_or}
use Rattle.std.specs.List.{AllByRecursion}
use Rattle.disk.specs.declared.device.Disk.{Ghosts}
use Rattle.sqlval.specs.Names.{folded}
use Rattle.catalog.specs.Database.{Database}
use Rattle.wal.specs.declared.log.Log.{Log}
use Rattle.pager.specs.Marks.{Changes, IsOverTheSame, marks_of, now_of}
use Rattle.pager.specs.Views.{view_of}
use Rattle.pager.specs.declared.writer.Writer.{Writer}
use Rattle.session.specs.Machine.{Connection, InTransactionOf, Phase, SavepointState}
use Rattle.session.specs.SavedTables.{SavedTables, savepoints_in}
use Rattle.session.specs.Stored.{ShowsDatabase}
use Rattle.session.specs.Writers.{IsWriter}
use Rattle.session.specs.declared.savepoints.SavedCatalogs.{SavedCatalogs}
use Rattle.session.specs.declared.seats.Transaction.{Transaction}
use Rattle.session.specs.declared.seats.Transaction.TheVariants as transaction
use Rattle.catalog.specs.Listed.{Listed}

-- a savepoint of the machine, what is kept of its tables, and what else is kept of it
pub record SavedAs (Kept : Type 0) : Type 0 where
  pub state : SavepointState
  pub tables : SavedTables
  pub kept : Kept

-- those of the machine, the newest first
abbrev pub states_of : {Kept : Type 0} → List (SavedAs Kept) → List SavepointState
states_of points = reverse (map (λ p. p.state) points)

-- a connection in a transaction of these savepoints
abbrev pub in_transaction : {Kept : Type 0} → SavedCatalogs → List (SavedAs Kept) → Phase → Connection
in_transaction catalog points phase = InTransactionOf (savepoints_in catalog).began (states_of points) phase

-- these savepoints are kept, and each one so
pub record AreSaved {Kept : Type 0} (Holds : SavedAs Kept → Type 0) (catalog : SavedCatalogs) (points : List (SavedAs Kept)) : Type 0 where
  pub tables : (savepoints_in catalog).points ≡ map (λ p. p.tables) points
  pub hold : AllByRecursion Holds points

-- the names are the same, but for their case
abbrev pub IsOfName : {Kept : Type 0} → SavedAs Kept → Type 0
IsOfName p = p.state.name ≡ folded p.tables.name

-- before the first write: it goes back to the committed tables
pub record IsUnwritten (committed : Listed) (p : SavedAs ⊤) : Type 0 where
  pub named : IsOfName p
  pub working : p.state.working ≡ None
  pub tables : p.tables.tables ≡ committed

-- a writer's changes are what they were at a mark, which is its newest
pub record GoesBackToMark (place : ℕ) (old new : Writer) : Type 0 where
  pub now : (d : Changes) → now_of new ≡ slice_index_or (marks_of old) place d
  pub marks : marks_of new ≡ take (place + 1) (marks_of old)
  pub stands : IsOverTheSame old new

-- a writer has let go of a mark, and of those after it
pub record ReleasesMarks (place : ℕ) (old new : Writer) : Type 0 where
  pub now : now_of new ≡ now_of old
  pub marks : marks_of new ≡ take place (marks_of old)
  pub stands : IsOverTheSame old new

-- a writer has a mark more
pub record AddsMark (old new : Writer) : Type 0 where
  pub now : now_of new ≡ now_of old
  pub marks : marks_of new ≡ marks_of old ++ now_of old ∷ []
  pub stands : IsOverTheSame old new

-- a writer is what it was
pub record KeepsWriter (old new : Writer) : Type 0 where
  pub now : now_of new ≡ now_of old
  pub marks : marks_of new ≡ marks_of old
  pub stands : IsOverTheSame old new

-- this becomes of the writer of a transaction that has written; another transaction is what it was
abbrev pub OnWriter : (Writer → Writer → Type 0) → Transaction → Transaction → Type 0
OnWriter Becomes (transaction.Writing writer) new = (left : Writer) × (new ≡ transaction.Writing left) × Becomes writer left
OnWriter Becomes old new = new ≡ old

module _ {D : Type 0} {g : Ghosts D} where
  -- after it: a writer that goes back to its mark can be committed over the newest commit, and shows the savepoint's database
  pub record IsMarked (files : Log D g) (newest : Database) (writer : Writer) (p : SavedAs Changes) : Type 0 where
    pub named : IsOfName p
    pub back : (w : Writer) → now_of w ≡ p.kept → IsOverTheSame writer w
        → IsWriter files w × ShowsDatabase (view_of files w) p.tables.tables (unwrap_or p.state.working newest)
