use Rattle.std.proofs.Common.{◌≡◌, ◌+◌, drop}
use Rattle.disk.specs.StoredVersion.{versions_of}
use Rattle.disk.specs.Picked.{before_cut, choices}
use Rattle.disk.proofs.versions.VersionsSinceSync.count_choices.Given as goal

abbrev pub invariant-behind : goal.invariant-behind
invariant-behind l = choices (versions_of l.self) l.from ≡ l.at + before_cut (drop l.at (versions_of l.self))
