-- What a file in memory keeps stands for.
use Rattle.std.specs.Prelude.{◌≡◌, ℕ, List, ◌∷◌, map}
use Rattle.disk.specs.File.{Version, File, whole}
use Rattle.disk.specs.declared.versions.StoredVersion.{StoredVersion}
use Rattle.disk.specs.declared.versions.VersionsSinceSync.{VersionsSinceSync}

abbrev pub version_of : StoredVersion → Version
version_of kept = record { is_cut = kept.is_cut; bytes = kept.bytes.items }

-- the versions that were given after the first
abbrev pub later_of : List StoredVersion → List Version
later_of = map version_of

abbrev pub versions_of : VersionsSinceSync → List Version
versions_of time = whole time.first.items ∷ later_of time.later.items

-- this content and these versions are the file's
pub record Stands (content : List ℕ) (time : VersionsSinceSync) (file : File) : Type 0 where
  pub same : content ≡ file.content
  pub first : time.first.items ≡ file.first
  pub later : later_of time.later.items ≡ file.later
