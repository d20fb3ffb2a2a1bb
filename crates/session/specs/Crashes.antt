-- Which databases a crash may show (Atomic Commit In SQLite; Write-Ahead Logging).
use Rattle.std.specs.Prelude.{◌≡◌, ℕ, ◌≤◌, ◌⊎◌, Some, slice_get}
use Rattle.catalog.specs.Database.{Database}
use Rattle.session.specs.Machine.{Machine, last_place, newest}

-- the place of the last database whose committing statement answered ok; none but such are added
abbrev pub acknowledged : Machine → ℕ
acknowledged = last_place

-- in a call from one machine to another: the newest database before or after it, or one that a commit left in doubt
abbrev pub MayShow : Machine → Machine → Database → Type 0
MayShow before after db = (db ≡ newest before) ⊎ (db ≡ newest after) ⊎ (before.in_doubt ≡ Some db) ⊎ (after.in_doubt ≡ Some db)

-- in a run from one machine to another: a committed database from the acknowledged one on, or one that a commit left in doubt
abbrev pub MayShowInRun : Machine → Machine → Database → Type 0
MayShowInRun before after db =
    ((i : ℕ) × (acknowledged before ≤ i) × (slice_get after.history i ≡ Some db)) ⊎ (after.in_doubt ≡ Some db)
