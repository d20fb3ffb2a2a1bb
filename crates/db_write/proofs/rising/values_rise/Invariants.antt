-- where what is left rises from the last value on, all rise
use Rattle.std.proofs.Common.{◌∷◌, length, map}
use Rattle.sqlval.specs.Fields.{value_of}
use Rattle.db_write.specs.Kept.{ValuesRise, row_value}
use Rattle.db_write.proofs.rising.values_rise.Given as goal

abbrev pub invariant-rows : goal.invariant-rows
invariant-rows l = ValuesRise l.collation (value_of l.before ∷ map (row_value l.place) l.left) → ValuesRise l.collation (map (row_value l.place) l.rows)

abbrev pub decreases-rows : goal.decreases-rows
decreases-rows l = length l.left
