-- Which machine the connections show.
use Rattle.std.specs.Prelude.{◌≡◌, ◌⊎◌, ◌<◌, ◌≤◌, ◌-◌, slice_get, slice_set, unwrap_or, option_map, ⊤, ℕ, Bool, IsTrue, true, false, List, [], ◌∷◌, length, map, None, Result, Ok, Err, Vec, if◌then◌else◌}
use Rattle.std.specs.declared.alloc.Global.{Global}
use Rattle.smallvec.specs.SmallVec.{SmallVec}
use Rattle.sqlval.specs.Refusals.{refusal_of}
use Rattle.sqlval.specs.declared.fault.Fault.{Fault}
use Rattle.sqlval.specs.declared.fault.Fault.TheVariants.{Busy, StaleSnapshot}
use Rattle.sqlval.specs.declared.value.Value.{Value}
use Rattle.std.specs.List.{AllByRecursion, list_any}
use Rattle.disk.specs.declared.device.Disk.{Ghosts}
use Rattle.sql_syntax.specs.declared.statement.CheckpointMode.{CheckpointMode}
use Rattle.sql_syntax.specs.declared.statement.Statement.{Statement}
use Rattle.sql_syntax.specs.declared.statement.Statement.TheVariants as statement
use Rattle.wal.specs.declared.log.Log.{Log}
use Rattle.wal.specs.declared.log.Snapshot.{Snapshot}
use Rattle.wal.specs.Anew.{begins_anew}
use Rattle.wal.specs.LogState.{db_of, state_of, log_of, seen_by}
use Rattle.wal.specs.Restarts.{next_header}
use Rattle.wal_checkpoint.specs.declared.checkpoints.Counts.{Counts}
use Rattle.catalog.specs.Listed.{listed_in, Listed}
use Rattle.session.specs.SavedTables.{HasNoSavepoints, IsUnchanged, Rebases, committed_in, current_in}
use Rattle.session.specs.Seats.{IsIdleSeat, Trades, holds_writer, see_none}
use Rattle.session.specs.declared.seats.Seat.{Seat}
use Rattle.session.specs.Saving.{AreSaved, IsMarked, IsUnwritten, SavedAs, in_transaction}
use Rattle.session.specs.declared.savepoints.SavedCatalogs.{SavedCatalogs}
use Rattle.catalog.specs.Database.{Database}
use Rattle.row_scan.specs.Rows.{values_of}
use Rattle.pager.specs.Marks.{Changes, marks_of}
use Rattle.pager.specs.Views.{View, Tells, newest_view, view_at, view_of}
use Rattle.pager.specs.declared.writer.Writer.{Writer}
use Rattle.session.specs.TooLong.{StepOrTooLong}
use Rattle.session.specs.Holding.{HoldThroughout, IsLeftBy, IsSettled}
use Rattle.session.specs.ConnectionState.{files_of, has_failed_in}
use Rattle.session.specs.CopiedBack.{CopiesBack, numbers_of}
use Rattle.session.specs.Endings.{as_answered, once_answered, without_end}
use Rattle.session.specs.Machine.{Machine, Connection, Idle, NoSnapshot, Phase, Reads, Writes, Reply, Rows, Refused, connection, is_writing, newest}
use Rattle.session.specs.Steps.{is_connection}
use Rattle.session.specs.Outcomes.{outcome}
use Rattle.session.specs.Crashes.{MayShow}
use Rattle.session.specs.Stored.{ShowsDatabase}
use Rattle.session.specs.Writers.{IsNewest, IsWriter, is_stale}
use Rattle.session.specs.declared.transactions.Connections.{Connections}
use Rattle.session.specs.declared.seats.Transaction.{Transaction}
use Rattle.session.specs.declared.seats.Transaction.TheVariants as transaction

-- the reply of a call that answers rows, and of one that answers none
abbrev pub rows_reply : Result (Vec (SmallVec Value) Global) Fault → Reply
rows_reply (Ok rows) = Rows (map values_of rows.items)
rows_reply (Err fault) = Refused (refusal_of fault)

abbrev pub done_reply : Result ⊤ Fault → Reply
done_reply (Ok done) = Rows []
done_reply (Err fault) = Refused (refusal_of fault)

-- there is no transaction
abbrev pub is_idle : Transaction → Bool
is_idle transaction.Idle = true
is_idle _ = false

-- it has neither read nor written yet
abbrev pub is_begun : Transaction → Bool
is_begun transaction.Begun = true
is_begun _ = false

-- it has no snapshot yet, or there is none
abbrev pub has_no_snapshot : Transaction → Bool
has_no_snapshot transaction.Idle = true
has_no_snapshot transaction.Begun = true
has_no_snapshot _ = false

-- it goes on, and hasn't written yet
abbrev pub is_reading : Transaction → Bool
is_reading transaction.Begun = true
is_reading (transaction.Reading snapshot) = true
is_reading _ = false

-- the committed database of a place, the place of the newest, and that one
abbrev pub committed_at : List Database → ℕ → Database
committed_at history i = unwrap_or (slice_get history i) []

abbrev pub last_in : List Database → ℕ
last_in history = length history - 1

abbrev pub newest_in : List Database → Database
newest_in history = committed_at history (last_in history)

-- of these connections one at most writes
abbrev pub HaveOneWriter : List Connection → Type 0
HaveOneWriter [] = ⊤
HaveOneWriter (k ∷ ks) = (is_writing k ≡ true → list_any is_writing ks ≡ false) × HaveOneWriter ks

-- a transaction that hasn't written yet is in this phase, with its savepoints
pub record IsReadingIn (catalog : SavedCatalogs) (phase : Phase) (k : Connection) : Type 0 where
  pub points : List (SavedAs ⊤)
  pub is : k ≡ in_transaction catalog points phase
  pub all : IsUnchanged catalog
  pub saved : AreSaved (IsUnwritten (committed_in catalog)) catalog points

-- what a statement leaves that commits nothing: whether a commit or a checkpoint has failed, whose the present transaction is, the other connections', and
-- the tables of the newest commit
pub record Beside : Type 0 where
  pub failed : Bool
  pub connection : ℕ
  pub parked : List Seat
  pub newest : Listed

module _ {D : Type 0} {g : Ghosts D} where
  -- A snapshot shows the committed database of a place, which has these tables. It is of the newest commit, or older.
  pub record IsSnapshotOf (files : Log D g) (tables : Listed) (history : List Database) (i : ℕ) (snapshot : Snapshot) : Type 0 where
    pub shows : ShowsDatabase (view_at files snapshot) tables (committed_at history i)
    pub age : ((i ≡ last_in history) × IsNewest files snapshot) ⊎ ((i < last_in history) × (seen_by snapshot < (state_of files).frames))

  -- A transaction that has written works on the database that its writer shows, and its writer has a mark for each of its savepoints. These are the
  -- committed databases.
  pub record IsWritingIn (files : Log D g) (catalog : SavedCatalogs) (history : List Database) (writer : Writer) (k : Connection) : Type 0 where
    pub db : Database
    pub points : List (SavedAs Changes)
    pub is : k ≡ in_transaction catalog points (Writes (last_in history) db)
    pub may : IsWriter files writer
    pub stored : ShowsDatabase (view_of files writer) (current_in catalog) db
    pub saved : AreSaved (IsMarked files (newest_in history) writer) catalog points
    pub marks : marks_of writer ≡ map (λ p. p.kept) points
    pub base : ShowsDatabase (newest_view files) (committed_in catalog) (newest_in history)

  -- How far the transaction of a connection has come.
  abbrev pub IsTransaction : Log D g → SavedCatalogs → List Database → Transaction → Connection → Type 0
  IsTransaction files catalog history transaction.Idle k = (k ≡ Idle) × IsUnchanged catalog × HasNoSavepoints catalog
  IsTransaction files catalog history transaction.Begun k = IsReadingIn catalog NoSnapshot k
  IsTransaction files catalog history (transaction.Reading snapshot) k = (i : ℕ) × IsReadingIn catalog (Reads i) k × IsSnapshotOf files (committed_in catalog) history i snapshot
  IsTransaction files catalog history (transaction.Writing writer) k = IsWritingIn files catalog history writer k

  -- the seats are those of these connections, one by one
  abbrev pub AreParked : Log D g → List Database → List Seat → List Connection → Type 0
  AreParked files history [] [] = ⊤
  AreParked files history (s ∷ ss) (k ∷ ks) = IsTransaction files s.catalog history s.transaction k × AreParked files history ss ks
  AreParked files history _ _ = ⊥

  -- the tables of the newest commit
  abbrev pub newest_tables : Connections D g → Listed
  newest_tables c = listed_in c.newest.value

  -- The files hold the newest of the committed databases, its tables are listed, and each connection is where its transaction is: the present
  -- one, and the others, beside an idle one in its place.
  pub record RepresentsRunning (c : Connections D g) (m : Machine) : Type 0 where
    pub running : m.failed ≡ false
    pub sure : m.in_doubt ≡ None
    pub whole : has_failed_in c ≡ false
    pub told : Tells (files_of c)
    pub settled : IsSettled (files_of c)
    pub some : 1 ≤ length m.history
    pub stored : ShowsDatabase (newest_view (files_of c)) (newest_tables c) (newest m)
    pub sixteen : length m.connections ≡ 16
    pub numbered : is_connection c.connection ≡ true
    pub present : Connection
    pub is : connection m c.connection ≡ present
    pub transaction : IsTransaction (files_of c) c.catalog m.history c.transaction present
    pub parked : AreParked (files_of c) m.history c.parked.items (slice_set m.connections (c.connection - 1) Idle)
    pub sole : HaveOneWriter m.connections

  -- the connections with another transaction of the present one
  abbrev pub with_transaction : Connections D g → Transaction → Connections D g
  with_transaction c t = record c { transaction = t }

  abbrev pub beside_in : Connections D g → Beside
  beside_in c = record { failed = has_failed_in c; connection = c.connection; parked = c.parked.items; newest = newest_tables c }

  -- no other connection sees a snapshot
  abbrev pub is_alone : Connections D g → Bool
  is_alone c = see_none c.parked.items

  -- all seats, with the present one's at its place
  abbrev pub seats_in : Connections D g → List Seat
  seats_in c = slice_set c.parked.items (c.connection - 1) (record { transaction = c.transaction; catalog = c.catalog })

  -- the seats of the others: all seats, with one that has no transaction in the place of this connection's
  abbrev pub others_in : Connections D g → ℕ → List Seat
  others_in c connection = slice_set (seats_in c) (connection - 1) (record { transaction = transaction.Idle; catalog = c.catalog })

  -- a connection's transaction
  abbrev pub transaction_of : Connections D g → ℕ → Transaction
  transaction_of c connection = unwrap_or (option_map (λ s. s.transaction) (slice_get (seats_in c) (connection - 1))) transaction.Idle

  -- after a failed commit nothing more is shown than that, and what is left of the files holds a database that the machine may show
  abbrev pub Represents : Connections D g → Machine → Type 0
  Represents c m = (has_failed_in c ≡ true) × (m.failed ≡ true) × IsLeftBy (files_of c) m ⊎ RepresentsRunning c m

  -- what a connection sees before a statement
  abbrev pub seen_in : Transaction → Log D g → View
  seen_in (transaction.Writing writer) files = view_of files writer
  seen_in (transaction.Reading snapshot) files = view_at files snapshot
  seen_in _ files = newest_view files

  -- A checkpoint that answers rows, where the other connections have these seats, has copied frames, and its one row has their counts.
  abbrev pub CopiesAnswered : List Seat → Log D g → Statement → Reply → Log D g → Type 0
  CopiesAnswered others old s reply new = (mode : CheckpointMode) → s ≡ statement.Checkpoint mode → (rows : List (List Value)) → reply ≡ Rows rows
      → (counts : Counts) × (rows ≡ numbers_of counts ∷ []) × CopiesBack mode others old (Ok counts) new

  -- A commit, where the other connections have these seats, begins the log anew where none of them sees a snapshot and all frames are copied.
  abbrev pub BeginsLog : List Seat → Log D g → Machine → Machine → Log D g → Type 0
  BeginsLog others old m next new =
      length m.history < length next.history → IsTrue (begins_anew (state_of old) (see_none others)) → (state_of new).header ≡ next_header (state_of old).header

  -- This is a step from a machine to one that is shown after it, and at each moment of it a crash leaves a database that they may show.
  pub record StepsOver (old : Connections D g) (m : Machine) (connection : ℕ) (statement : Statement) (reply : Reply) (new : Connections D g) : Type 0 where
    pub next : Machine
    pub step : StepOrTooLong m connection statement reply next
    pub shown : Represents new next
    pub crash : HoldThroughout (MayShow m next) (files_of old) (files_of new)
    pub copied : CopiesAnswered (others_in old connection) (files_of old) statement reply (files_of new)
    pub renewed : BeginsLog (others_in old connection) (files_of old) m next (files_of new)

  -- From each machine that was shown it is a step, and the machine after it is shown.
  abbrev pub Steps : Connections D g → ℕ → Statement → Reply → Connections D g → Type 0
  Steps old connection statement reply new = (m : Machine) → Represents old m → StepsOver old m connection statement reply new

  -- The same of the present connection, where no commit has failed, except for what a checkpoint copies. Where the reply is RAISE(ROLLBACK) it is a
  -- step once the connection has answered it, and has given its transaction up.
  pub record StepsTo (old : Connections D g) (m : Machine) (statement : Statement) (reply : Reply) (new : Connections D g) : Type 0 where
    pub next : Machine
    pub step : StepOrTooLong m old.connection statement (as_answered reply) (once_answered next new.connection reply)
    pub shown : Represents new next
    pub crash : HoldThroughout (MayShow m next) (files_of old) (files_of new)
    pub renewed : BeginsLog old.parked.items (files_of old) m next (files_of new)

  abbrev pub StepsOn : Connections D g → Statement → Reply → Connections D g → Type 0
  StepsOn old statement reply new = (m : Machine) → RepresentsRunning old m → StepsTo old m statement reply new

  -- the statement comes to what COMMIT comes to
  abbrev pub CommitsBy : Connections D g → Statement → Type 0
  CommitsBy c s = (m : Machine) → RepresentsRunning c m → outcome m c.connection s ≡ outcome m c.connection statement.Commit

  -- the files were read at most: they show what they showed
  pub record ShowTheSame (old new : Log D g) : Type 0 where
    pub told : Tells new
    pub known : state_of new ≡ state_of old
    pub newest : newest_view new ≡ newest_view old
    pub at : (snapshot : Snapshot) → view_at new snapshot ≡ view_at old snapshot
    pub db_file : g.file (db_of new) ≡ g.file (db_of old)
    pub log_file : g.file (log_of new) ≡ g.file (log_of old)

  -- nothing but the files has changed, and these were read at most
  pub record OnlyReads (old new : Connections D g) : Type 0 where
    pub files : Tells (files_of old) → ShowTheSame (files_of old) (files_of new)
    pub beside : beside_in new ≡ beside_in old
    pub catalog : new.catalog ≡ old.catalog
    pub transaction : new.transaction ≡ old.transaction

  -- a transaction that had none has the newest snapshot now, and nothing else has changed
  pub record StartsReading (old new : Connections D g) : Type 0 where
    pub files : files_of new ≡ files_of old
    pub beside : beside_in new ≡ beside_in old
    pub catalog : new.catalog ≡ old.catalog
    pub begun : is_begun old.transaction ≡ true → (snapshot : Snapshot) × (new.transaction ≡ transaction.Reading snapshot) × IsNewest (files_of old) snapshot
    pub other : is_begun old.transaction ≡ false → new.transaction ≡ old.transaction

  -- the transaction is given up, and with it the tables that it made and its savepoints
  pub record IsGivenUp (old new : Connections D g) : Type 0 where
    pub files : files_of new ≡ files_of old
    pub beside : beside_in new ≡ beside_in old
    pub idle : new.transaction ≡ transaction.Idle
    pub all : IsUnchanged new.catalog
    pub savepoints : HasNoSavepoints new.catalog

  -- the transaction is given up where the fault ends it, and else all stays; the fault is answered as one that ends none
  abbrev pub SettlesWhere : Bool → Fault → Connections D g → Fault → Connections D g → Type 0
  SettlesWhere true f old answer new = (answer ≡ without_end f) × IsGivenUp old new
  SettlesWhere false f old answer new = (answer ≡ f) × (new ≡ old)

  -- all transactions are given up
  pub record AreGivenUp (old new : Connections D g) : Type 0 where
    pub failed : has_failed_in new ≡ has_failed_in old
    pub connection : new.connection ≡ old.connection
    pub newest : newest_tables new ≡ newest_tables old
    pub present : IsIdleSeat (record { transaction = new.transaction; catalog = new.catalog })
    pub others : AllByRecursion IsIdleSeat new.parked.items
    pub count : length new.parked.items ≡ length old.parked.items

  -- ---- which connection is present

  -- the present connection's transaction, and its tables, stand in the seat of a number, and what stood there is the present one's
  pub record TradesWith (connection : ℕ) (old new : Connections D g) : Type 0 where
    pub files : files_of new ≡ files_of old
    pub failed : has_failed_in new ≡ has_failed_in old
    pub connection_is : new.connection ≡ old.connection
    pub newest : newest_tables new ≡ newest_tables old
    pub trades : Trades (connection - 1) old.parked.items (record { transaction = old.transaction; catalog = old.catalog }) new.parked.items (record { transaction = new.transaction; catalog = new.catalog })

  -- that connection is the present one now: the one that was is in its seat, and the new one has left its own
  pub record Switches (connection : ℕ) (old new : Connections D g) : Type 0 where
    pub same : connection ≡ old.connection → new ≡ old
    pub other : (connection ≡ old.connection → ⊥) → (mid : Connections D g) × TradesWith old.connection old mid × TradesWith connection (record mid { connection = connection }) new

  -- ---- what a statement begins with

  -- a transaction that has no snapshot yet sees the newest tables, and nothing else has changed
  pub record TakesNewest (old new : Connections D g) : Type 0 where
    pub files : files_of new ≡ files_of old
    pub beside : beside_in new ≡ beside_in old
    pub transaction : new.transaction ≡ old.transaction
    pub taken : has_no_snapshot old.transaction ≡ true → Rebases (newest_tables old) old.catalog new.catalog
    pub same : has_no_snapshot old.transaction ≡ false → new.catalog ≡ old.catalog

  -- a transaction that has no snapshot yet sees the newest tables
  abbrev pub SeesNewest : Connections D g → Type 0
  SeesNewest c = has_no_snapshot c.transaction ≡ true → committed_in c.catalog ≡ newest_tables c

  -- the present connection may take the write right: it sees the newest commit, and no other has that right
  pub record MayWrite (c : Connections D g) : Type 0 where
    pub newest : SeesNewest c
    pub fresh : is_stale (files_of c) c.transaction ≡ false
    pub free : list_any holds_writer c.parked.items ≡ false

  -- the first refusal of a write in a transaction that hasn't written
  abbrev pub first_write_refusal : Connections D g → Result ⊤ Fault
  first_write_refusal c = if is_stale (files_of c) c.transaction then Err StaleSnapshot else (if list_any holds_writer c.parked.items then Err Busy else Ok tt)
