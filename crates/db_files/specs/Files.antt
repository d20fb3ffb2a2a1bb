-- Which database the two files stand for together (Database File Format, "The Write-Ahead Log").
use Rattle.std.specs.Prelude.{◌≡◌, ◌≤◌, ◌⊎◌, ℕ, Option, List}
use Rattle.disk.specs.File.{File, Version, versions, IsLeft}
use Rattle.db_header.specs.Header.{IsHeader, counted_of}
use Rattle.db_header.specs.declared.fields.Header.{Header}
use Rattle.wal.specs.View.{IsFilesView, AreWithinLimits}
use Rattle.catalog.specs.Database.{Database}
use Rattle.db_files.specs.Schema.{Language}
use Rattle.db_files.specs.Stands.{StandsFor}

-- The database file begins with a header that tells the size of a page; the file and the log make one view of pages,
-- within the limits; no more than 1,000,000 frames of the log are committed; and these pages stand for the database.
pub record FilesStandFor (language : Language) (db log : List ℕ) (database : Database) : Type 0 where
  pub header : Header
  pub header_is : IsHeader db header
  pub pages : List (List ℕ)
  pub view : IsFilesView header.page_size (counted_of header) db log pages
  pub few : view.frames ≤ 1000000
  pub served : AreWithinLimits header.page_size pages
  pub stands : StandsFor language header.page_size pages database

-- two pairs of files make the same views
abbrev pub AreSameViews : List ℕ → List ℕ → List ℕ → List ℕ → Type 0
AreSameViews db log other_db other_log =
    (page_size : ℕ) (counted : Option ℕ) (pages : List (List ℕ))
    → (IsFilesView page_size counted db log pages → IsFilesView page_size counted other_db other_log pages)
    × (IsFilesView page_size counted other_db other_log pages → IsFilesView page_size counted db log pages)

-- a crash could leave it before, or it is what a read gave
abbrev pub CouldBe : File → List ℕ → Type 0
CouldBe file content = IsLeft (versions file) content ⊎ (content ≡ file.content)

-- What a crash may leave while two files are opened, where these are their versions by now: what it could leave before or
-- what was read of each; or the database file as it was read, beside a log that makes the same views.
abbrev pub OpensAsBefore : File → File → List Version → List Version → Type 0
OpensAsBefore old_db old_log db_versions log_versions =
    (db log : List ℕ) → IsLeft db_versions db → IsLeft log_versions log
    → (CouldBe old_db db × CouldBe old_log log) ⊎ ((db ≡ old_db.content) × AreSameViews db log old_db.content old_log.content)
