use Rattle.std.proofs.Common.{◌≡◌, ◌-◌, IsTrue, length, drop}
use Rattle.std.specs.List.{list_all}
use Rattle.engine.specs.Creating.{Stays, is_zero_byte}
use Rattle.engine.proofs.creating.is_zero.Given as goal

abbrev pub invariant-pieces : goal.invariant-pieces
invariant-pieces g l =
    Stays g.D.Disk.tells g.D.Disk.file l.initial.db l.db
    × (IsTrue (g.D.Disk.tells l.db) → l.len ≡ length (g.D.Disk.file l.db).content)
    × (IsTrue (g.D.Disk.tells l.db) → list_all is_zero_byte (drop l.at (g.D.Disk.file l.db).content) ≡ list_all is_zero_byte (g.D.Disk.file l.db).content)
    × (g.D.Disk.failures l.db ≡ g.D.Disk.failures l.initial.db)

abbrev pub decreases-pieces : goal.decreases-pieces
decreases-pieces g l = l.len - l.at
