-- What creating a database leaves, and why it is refused.
use Rattle.sqlval.specs.PageSizes.{IsPageSize}
use Rattle.std.specs.Prelude.{◌≡◌, ◌⊎◌, ℕ, Bool, true, false, IsTrue, List, [], length, nat_lt, ◌==◌, if◌then◌else◌}
use Rattle.std.specs.List.{list_all}
use Rattle.disk.specs.File.{File, Version, IsLeft, Always, Throughout}
use Rattle.db_header.specs.Header.{IsHeader, empty_of}
use Rattle.tree_leaf.specs.Writing.{leaf_of}
use Rattle.pager_older.specs.Older.{IsSyncedAs}
use Rattle.session.specs.Holding.{Hold}
use Rattle.sqlval.specs.declared.fault.Fault.{Fault}
use Rattle.sqlval.specs.declared.fault.Fault.TheVariants.{Memory, Io, Unsupported, Misuse}
use Rattle.sqlval.specs.declared.fault.Feature.TheVariants.{PageSize}
use Rattle.sqlval.specs.declared.fault.Misuse.TheVariants.{NotBlank}

-- a disk that tells its content still does, and the file is as it was
pub record Stays {D : Type 0} (tells : D → Bool) (file : D → File) (old new : D) : Type 0 where
  pub told : tells new ≡ tells old
  pub same : IsTrue (tells old) → file new ≡ file old

-- The bytes are page 1 of the empty database: a header that says so, and after it a table leaf without cells (Database
-- File Format, "The Database Header", "B-tree Pages").
pub record IsEmptyDatabase (page_size : ℕ) (bytes : List ℕ) : Type 0 where
  pub header : List ℕ
  pub sized : length header ≡ 100
  pub says : IsHeader header (empty_of page_size)
  pub page : bytes ≡ leaf_of header page_size []

abbrev pub is_zero_byte : ℕ → Bool
is_zero_byte byte = byte == 0

-- a blank file: at most 65,536 bytes, all of them zero
abbrev pub is_blank_content : List ℕ → Bool
is_blank_content bytes = if nat_lt 65536 (length bytes) then false else list_all is_zero_byte bytes

-- a blank file, or this page
abbrev pub IsBlankOr : List ℕ → List ℕ → Type 0
IsBlankOr page c = (is_blank_content c ≡ true) ⊎ (c ≡ page)

-- a crash leaves one of these
abbrev pub LeavesBlankOr : List ℕ → List Version → Type 0
LeavesBlankOr page versions = (c : List ℕ) → IsLeft versions c → IsBlankOr page c

-- At each moment until now a crash leaves a blank file or this page, and the content is one of them too.
pub record BecomesPage (page : List ℕ) (old new : File) : Type 0 where
  pub moments : Always old new (LeavesBlankOr page)
  pub content : IsBlankOr page new.content

-- a blank database file beside any log, or page 1 of the empty database beside a log without a byte
abbrev pub IsBlankOrCreated : ℕ → List ℕ → List ℕ → Type 0
IsBlankOrCreated page_size db log = (is_blank_content db ≡ true) ⊎ IsEmptyDatabase page_size db × (log ≡ [])

-- each pair of files that a crash may leave is such
abbrev pub LeavesBlankOrCreated : ℕ → List Version → List Version → Type 0
LeavesBlankOrCreated page_size dbs logs = (db log : List ℕ) → IsLeft dbs db → IsLeft logs log → IsBlankOrCreated page_size db log

-- At each moment until now a crash leaves a blank database file, or the empty database beside a log without a byte; and so are the
-- two contents now.
pub record BecomesDatabase (page_size : ℕ) (db log new_db new_log : File) : Type 0 where
  pub moments : Throughout (LeavesBlankOrCreated page_size) db log new_db new_log
  pub contents : IsBlankOrCreated page_size new_db.content new_log.content

-- The empty database was made of a blank file: a crash leaves page 1 beside a log without a byte, and no call failed.
pub record HasCreated {D : Type 0} (tells : D → Bool) (file : D → File) (failures : D → ℕ) (page_size : ℕ) (db log new_db new_log : D) : Type 0 where
  pub blank : IsTrue (tells db) → is_blank_content (file db).content ≡ true
  pub made : IsTrue (tells db) → (page : List ℕ) × IsEmptyDatabase page_size page × IsSyncedAs page (file new_db)
  pub emptied : IsTrue (tells log) → IsSyncedAs [] (file new_log)
  pub db_counts : failures new_db ≡ failures db
  pub log_counts : failures new_log ≡ failures log

-- Why no database of this page size is made: memory, a call of a disk that failed, a page size that isn't supported, or a file
-- that is not blank.
abbrev pub IsNewFileRefusal : ℕ → Type 0 → Type 0 → Fault → Type 0
IsNewFileRefusal page_size IsNotBlank CallFailed Memory = Unit {0}
IsNewFileRefusal page_size IsNotBlank CallFailed Io = CallFailed
IsNewFileRefusal page_size IsNotBlank CallFailed (Unsupported PageSize) = IsPageSize page_size → ⊥
IsNewFileRefusal page_size IsNotBlank CallFailed (Misuse NotBlank) = IsNotBlank
IsNewFileRefusal page_size IsNotBlank CallFailed fault = ⊥

-- Page 1 of the empty database, beside a log without a byte, holds the database of no objects.
abbrev pub CreatedHold : Type 0
CreatedHold = (page_size : ℕ) (page : List ℕ) → IsPageSize page_size → IsEmptyDatabase page_size page → Hold page [] []
