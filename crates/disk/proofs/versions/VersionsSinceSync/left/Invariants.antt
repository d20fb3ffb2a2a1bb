use Rattle.std.proofs.Common.{◌≡◌, ◌+◌, ◌/◌, ◌<◌, ℕ, length, get_or}
use Rattle.disk.specs.File.{version_at}
use Rattle.disk.specs.StoredVersion.{versions_of}
use Rattle.disk.specs.Picked.{picked}
use Rattle.disk.proofs.versions.VersionsSinceSync.left.Given as goal

abbrev pub invariant-bytes : goal.invariant-bytes
invariant-bytes l = record {
  size : length l.left.items ≡ l.at;
  bytes : (p : ℕ) → p < l.at → get_or l.left.items p 0 ≡ get_or (version_at (versions_of l.self) (picked l.picks (1 + p / 512) l.choices)).bytes p 0;
}
