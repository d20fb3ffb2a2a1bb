-- The changes of two files, as bytes, and what they make of the files' contents.
use Rattle.std.specs.Prelude.{◌≡◌, ℕ, List, [], ◌∷◌, ◌++◌, length, take}
use Rattle.std.specs.List.{flat_map}
use Rattle.std.specs.Int.{w64, to_be_bytes}
use Rattle.disk.specs.Calls.{overwritten}
use Rattle.disk_image.specs.declared.image.File.{File}
use Rattle.disk_image.specs.declared.image.File.TheVariants.{Database, Log}
use Rattle.disk_image.specs.declared.image.Image.{Image}

-- a call that changes one of the two files: bytes at an offset, a cut to a length, or a sync
pub data Change : Type 0 where
  Write : File → ℕ → List ℕ → Change
  Cut : File → ℕ → Change
  Sync : File → Change

-- the contents of both files
pub record Contents : Type 0 where
  pub db : List ℕ
  pub log : List ℕ

abbrev pub contents_of : Image → Contents
contents_of image = record { db = image.db.items; log = image.log.items }

abbrev pub noted_by : Image → List ℕ
noted_by image = image.noted.items

abbrev pub file_content : File → Contents → List ℕ
file_content Database c = c.db
file_content Log c = c.log

-- the contents with that of one file changed
abbrev pub on_file : File → (List ℕ → List ℕ) → Contents → Contents
on_file Database f c = record { db = f c.db; log = c.log }
on_file Log f c = record { db = c.db; log = f c.log }

-- what a change makes of the contents
abbrev pub changed_by : Change → Contents → Contents
changed_by (Write file at bytes) c = on_file file (overwritten at bytes) c
changed_by (Cut file len) c = on_file file (take len) c
changed_by (Sync file) c = c

abbrev pub replayed : List Change → Contents → Contents
replayed [] c = c
replayed (change ∷ changes) c = replayed changes (changed_by change c)

-- the byte of a file: D or L
abbrev pub file_byte : File → ℕ
file_byte Database = 68
file_byte Log = 76

-- A change as bytes: its kind (W, C or S), its file, an offset or a length, the number of the bytes, and these. Numbers have 8 bytes,
-- the greatest first.
abbrev pub change_bytes : ℕ → File → ℕ → List ℕ → List ℕ
change_bytes kind file at bytes = (kind ∷ file_byte file ∷ []) ++ to_be_bytes w64 at ++ to_be_bytes w64 (length bytes) ++ bytes

abbrev pub code : Change → List ℕ
code (Write file at bytes) = change_bytes 87 file at bytes
code (Cut file len) = change_bytes 67 file len []
code (Sync file) = change_bytes 83 file 0 []

-- a change was made of the contents, and noted at the journal's end
pub record Makes (change : Change) (old new : Image) : Type 0 where
  pub made : contents_of new ≡ changed_by change (contents_of old)
  pub noted : noted_by new ≡ noted_by old ++ code change

-- nothing was made and nothing noted
pub record IsSame (old new : Image) : Type 0 where
  pub contents : contents_of new ≡ contents_of old
  pub noted : noted_by new ≡ noted_by old

-- The journal is a list of changes that makes these contents of those before: whoever carries it out in its order on files with
-- the contents before has the contents now.
pub record LeadsFrom (before : Contents) (image : Image) : Type 0 where
  pub changes : List Change
  pub noted : noted_by image ≡ flat_map code changes
  pub made : replayed changes before ≡ contents_of image
