-- the values so far are those of the row's entry
use Rattle.std.proofs.Common.{◌≡◌, take}
use Rattle.index_build.specs.Ranking.{indexed_of}
use Rattle.index_build.proofs.checking.is_entry_of.Given as goal

abbrev pub invariant-columns : goal.invariant-columns
invariant-columns l = take l.place l.entry ≡ take l.place (indexed_of l.columns l.row)
