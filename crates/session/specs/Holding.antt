-- Which database the two files hold, and what a crash leaves of them (Write-Ahead Logging; Database File Format, "Reader Algorithm").
use Rattle.std.specs.Prelude.{◌≡◌, ◌≤◌, ⊤, ℕ, List, length, map, MatchOption}
use Rattle.disk.specs.File.{Version, IsLeft, IsSynced, IsContentLeft, Throughout, versions}
use Rattle.disk.specs.declared.device.Disk.{Ghosts}
use Rattle.db_header.specs.Header.{IsHeader, counted_of}
use Rattle.db_header.specs.declared.fields.Header.{Header}
use Rattle.wal.specs.Committed.{HasCommits}
use Rattle.wal.specs.LogState.{db_of, state_of, log_of}
use Rattle.wal.specs.Sizes.{IsViewSize}
use Rattle.wal.specs.Crashes.{HasNoChance}
use Rattle.wal.specs.declared.log.Log.{Log}
use Rattle.catalog.specs.Database.{Database}
use Rattle.pager.specs.Views.{View, IsViewPage, newest_view}
use Rattle.db_files.specs.Files.{FilesStandFor}
use Rattle.db_pages.specs.Language.{language}
use Rattle.session.specs.Machine.{Machine}
use Rattle.session.specs.Crashes.{MayShow}
use Rattle.session.specs.Stored.{ShowsDatabase}
use Rattle.catalog.specs.Listed.{Listed}

-- Opening finds the view: the database file begins with a header of the view's page size, the view is as large as its last commit
-- says, or that header where there is none, and page 1 counts so many pages, where its count holds.
pub record IsFound (view : View) : Type 0 where
  pub head : Header
  pub head_is : IsHeader view.db head
  pub head_size : head.page_size ≡ view.page_size
  pub sized : IsViewSize (map (λ f. f.head) view.frames) (counted_of head) (length view.db) view.page_size view.size
  pub few : length view.frames ≤ 1000000
  pub page : List ℕ
  pub first : IsViewPage view 1 page
  pub header : Header
  pub header_is : IsHeader page header
  pub counted : MatchOption (counted_of header) (⊤) (λ count. count ≡ view.size)

-- The contents of a database file and its log hold this database: it is what they stand for.
abbrev pub Hold : List ℕ → List ℕ → Database → Type 0
Hold db log database = FilesStandFor language db log database

-- The same by a view: the log's committed frames over the file's pages make one that opening finds, and it stores the database.
pub record StoreFiles (db log : List ℕ) (database : Database) : Type 0 where
  pub view : View
  pub db_is : view.db ≡ db
  pub commits : HasCommits view.page_size log view.frames
  pub found : IsFound view
  pub tables : Listed
  pub stored : ShowsDatabase view tables database

-- Each pair of files that a crash may leave of these versions, where no frame of the log is accepted by chance, holds a database that
-- may be shown.
abbrev pub LeaveHeld : (Database → Type 0) → List Version → List Version → Type 0
LeaveHeld May dbs logs = (db log : List ℕ) → IsLeft dbs db → IsLeft logs log → HasNoChance logs log → (database : Database) × May database × Hold db log database

module _ {D : Type 0} {g : Ghosts D} where
  -- At each moment from the old files until the new ones a crash leaves a database that may be shown.
  abbrev pub HoldThroughout : (Database → Type 0) → Log D g → Log D g → Type 0
  HoldThroughout May old new = Throughout (LeaveHeld May) (g.file (db_of old)) (g.file (log_of old)) (g.file (db_of new)) (g.file (log_of new))

  -- The files are as a commit leaves them: both are synced, and the log's commits are those of the newest view, which opening finds.
  pub record IsSettled (files : Log D g) : Type 0 where
    pub db_synced : IsSynced (g.file (db_of files))
    pub log_synced : IsSynced (g.file (log_of files))
    pub commits : HasCommits (state_of files).page_size (g.file (log_of files)).content (newest_view files).frames
    pub found : IsFound (newest_view files)

  -- The files are as a failed commit leaves them: what a crash leaves of them holds a database that the machine may show, and so do
  -- they as they are.
  pub record IsLeftBy (files : Log D g) (m : Machine) : Type 0 where
    pub some : 1 ≤ length m.history
    pub db_left : IsContentLeft (g.file (db_of files))
    pub log_left : IsContentLeft (g.file (log_of files))
    pub held : LeaveHeld (MayShow m m) (versions (g.file (db_of files))) (versions (g.file (log_of files)))
