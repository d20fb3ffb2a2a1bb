-- the entries of the rows so far
use Rattle.std.proofs.Common.{◌≡◌, map, take}
use Rattle.index_build.specs.Ranking.{indexed_of}
use Rattle.index_build.proofs.entries.entries_of.Given as goal

abbrev pub invariant-rows : goal.invariant-rows
invariant-rows l = l.entries.items ≡ map (indexed_of l.fn.columns) (take l.row-index l.fn.rows)
