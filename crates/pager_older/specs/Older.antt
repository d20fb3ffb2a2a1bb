-- A database file of the older kind, whose changes a rollback journal undoes, and what it is once it is in WAL mode (Database File
-- Format, "File format version numbers").
use Rattle.std.specs.Prelude.{◌≡◌, ◌⊎◌, ◌<◌, min, slice_index, ◌==◌, ◌&&◌, ℕ, Bool, true, false, List, [], ◌∷◌, length, take, nat_le, Option, Some, None}
use Rattle.disk.specs.Calls.{overwritten}
use Rattle.disk.specs.File.{File, IsLeft, IsSynced, Version}
use Rattle.db_header.specs.Header.{part}
use Rattle.db_header.specs.Reading.{has_text}
use Rattle.sqlval.specs.declared.fault.Fault.{Fault}
use Rattle.sqlval.specs.declared.fault.Fault.TheVariants.{Io, NotADatabase, Unsupported}
use Rattle.sqlval.specs.declared.fault.Feature.TheVariants.{FileVersion}
use Rattle.pager.specs.Sights.{is_told, told_bytes, told_file}
use Rattle.pager.specs.Views.{View}

-- the write and the read version that the file tells are both this
abbrev pub HasVersions : ℕ → List ℕ → Type 0
HasVersions version bytes = part 18 2 bytes ≡ version ∷ version ∷ []

-- the file with the versions of WAL mode
abbrev pub as_wal : List ℕ → List ℕ
as_wal bytes = overwritten 18 (2 ∷ 2 ∷ []) bytes

-- The file is a database's, of the older kind, and these are its first 100 bytes, with the versions of WAL mode.
pub record IsOlderFront (bytes front : List ℕ) : Type 0 where
  pub named : has_text bytes ≡ true
  pub older : HasVersions 1 bytes
  pub front_is : front ≡ take 100 (as_wal bytes)

-- a file in WAL mode, or one of the older kind
abbrev pub TellsFront : List ℕ → Option (List ℕ) → Type 0
TellsFront bytes None = HasVersions 2 bytes
TellsFront bytes (Some front) = IsOlderFront bytes front

-- These are the first 100 bytes of a file, with zeros for those that it hasn't got, and how many it has of them.
pub record IsPaddedFront (bytes front : List ℕ) (there : ℕ) : Type 0 where
  pub long : length front ≡ 100
  pub has : there ≡ min 100 (length bytes)
  pub each : (k : ℕ) → k < 100 → slice_index front k ≡ slice_index bytes k

-- why a file is neither; or a disk's call failed
abbrev pub IsFrontRefusal : List ℕ → Fault → Type 0
IsFrontRefusal bytes NotADatabase = (HasVersions 2 bytes → ⊥) × (has_text bytes ≡ false)
IsFrontRefusal bytes (Unsupported FileVersion) = (HasVersions 2 bytes → ⊥) × (HasVersions 1 bytes → ⊥)
IsFrontRefusal bytes Io = Unit {0}
IsFrontRefusal bytes fault = ⊥

-- a crash leaves the one content or the other
abbrev pub LeavesOneOrOther : List ℕ → List ℕ → List Version → Type 0
LeavesOneOrOther one other versions = (c : List ℕ) → IsLeft versions c → (c ≡ one) ⊎ (c ≡ other)

-- the file's content is these bytes, and a crash leaves them and nothing else
pub record IsSyncedAs (bytes : List ℕ) (file : File) : Type 0 where
  pub content : file.content ≡ bytes
  pub synced : IsSynced file

-- what a file shows once it is in WAL mode, without a log: so many pages of a size
abbrev pub file_view : List ℕ → ℕ → ℕ → View
file_view bytes page_size size = record { db = as_wal bytes; frames = []; page_size = page_size; size = size }

-- What a reader of a file's pages leaves as it is: the file, where its disk tells it, its length, the size of a page, how many there
-- are, and which disk and which buffer were lent.
pub record UnderFile : Type 0 where
  pub db : Option File
  pub len : ℕ
  pub page_size : ℕ
  pub count : ℕ
  pub db_name : ℕ
  pub buffer_name : ℕ

-- the file is told, has this length, and its header lies in page 1
abbrev pub tells_file : UnderFile → Bool
tells_file under = is_told under.db && (length (told_bytes under.db) == under.len && nat_le 512 under.page_size)

-- what it shows, as far as it is told
abbrev pub view_under_file : UnderFile → View
view_under_file under = file_view (told_bytes under.db) under.page_size under.count

-- what stands below the pages of a disk's file
abbrev pub under_file : {D : Type 0} → (D → Bool) → (D → File) → D → ℕ → ℕ → ℕ → ℕ → ℕ → UnderFile
under_file tells file disk len page_size count db_name buffer_name = record {
  db = told_file tells file disk;
  len = len;
  page_size = page_size;
  count = count;
  db_name = db_name;
  buffer_name = buffer_name;
}
