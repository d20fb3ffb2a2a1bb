-- The seats of the connections, each with its transaction and the tables of it (Isolation In SQLite).
use Rattle.std.specs.Prelude.{◌≡◌, ◌⊎◌, ◌<◌, ◌≤◌, ⊤, ℕ, Bool, true, false, List, [], ◌∷◌, length, Option, Some, None, MatchOption, slice_get, slice_set, not}
use Rattle.std.specs.List.{AllByRecursion, list_any}
use Rattle.catalog.specs.declared.tables.Catalog.{Catalog}
use Rattle.wal.specs.LogState.{seen_by}
use Rattle.wal.specs.declared.log.Snapshot.{Snapshot}
use Rattle.pager.specs.Writers.{snapshot_of}
use Rattle.session.specs.SavedTables.{HasNoSavepoints, IsUnchanged}
use Rattle.session.specs.declared.seats.Seat.{Seat}
use Rattle.session.specs.declared.seats.Seats.{Seats}
use Rattle.session.specs.declared.seats.Transaction.{Transaction}
use Rattle.session.specs.declared.seats.Transaction.TheVariants as transaction

-- the transaction has the write right
abbrev pub is_writer : Transaction → Bool
is_writer (transaction.Writing writer) = true
is_writer _ = false

-- the same of that of a seat
abbrev pub holds_writer : Seat → Bool
holds_writer seat = is_writer seat.transaction

-- the transaction sees a snapshot
abbrev pub sees_snapshot : Transaction → Bool
sees_snapshot (transaction.Reading snapshot) = true
sees_snapshot (transaction.Writing writer) = true
sees_snapshot _ = false

-- the same of that of a seat
abbrev pub holds_snapshot : Seat → Bool
holds_snapshot seat = sees_snapshot seat.transaction

-- none of these seats sees one
abbrev pub see_none : List Seat → Bool
see_none seats = not (list_any holds_snapshot seats)

-- the snapshot that a transaction sees
abbrev pub snapshot_in : Transaction → Option Snapshot
snapshot_in (transaction.Reading snapshot) = Some snapshot
snapshot_in (transaction.Writing writer) = Some (snapshot_of writer)
snapshot_in _ = None

-- the transaction of one of these seats sees it
abbrev pub IsSeen : List Seat → Snapshot → Type 0
IsSeen [] snapshot = ⊥
IsSeen (s ∷ ss) snapshot = (snapshot_in s.transaction ≡ Some snapshot) ⊎ IsSeen ss snapshot

-- a seat's transaction sees at least the frames of a snapshot, if it sees any
abbrev pub SeesAtLeast : Snapshot → Seat → Type 0
SeesAtLeast target seat = MatchOption (snapshot_in seat.transaction) (⊤) (λ s. seen_by target ≤ seen_by s)

-- of two snapshots this is the one that sees fewer frames
pub record IsFewer (own : Option Snapshot) (other least : Snapshot) : Type 0 where
  pub is : (least ≡ other) ⊎ (own ≡ Some least)
  pub second : seen_by least ≤ seen_by other
  pub first : MatchOption own (⊤) (λ s. seen_by least ≤ seen_by s)

-- Of the snapshots of these seats, and the newest, it is one that sees the fewest frames.
pub record IsLeast (seats : List Seat) (newest target : Snapshot) : Type 0 where
  pub is : (target ≡ newest) ⊎ IsSeen seats target
  pub first : seen_by target ≤ seen_by newest
  pub least : AllByRecursion (SeesAtLeast target) seats

-- it has no transaction
pub record IsIdleSeat (seat : Seat) : Type 0 where
  pub idle : seat.transaction ≡ transaction.Idle
  pub all : IsUnchanged seat.catalog
  pub savepoints : HasNoSavepoints seat.catalog

-- The seat at this place is the one that was given, and the one that stood there is left. Where there is no such place, all stays.
pub record Trades (place : ℕ) (old : List Seat) (given : Seat) (new : List Seat) (left : Seat) : Type 0 where
  pub set : place < length old → new ≡ slice_set old place given
  pub got : place < length old → slice_get old place ≡ Some left
  pub stays : length old ≤ place → (new ≡ old) × (left ≡ given)

-- the tables of the newest commit
abbrev pub catalog_in : Seats → Catalog
catalog_in seats = seats.newest.value

-- sixteen connections without transactions
pub record AreFresh (seats : Seats) : Type 0 where
  pub all : IsUnchanged seats.catalog
  pub savepoints : HasNoSavepoints seats.catalog
  pub idle : AllByRecursion IsIdleSeat seats.parked.items
  pub count : length seats.parked.items ≡ 16
