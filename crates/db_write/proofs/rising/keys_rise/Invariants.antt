-- where they rise in the indexes that are left, they rise in all
use Rattle.std.proofs.Common.{drop}
use Rattle.std.specs.List.{AllByRecursion}
use Rattle.db_write.specs.Kept.{KeysRise}
use Rattle.db_write.proofs.rising.keys_rise.Given as goal

abbrev pub invariant-indexes : goal.invariant-indexes
invariant-indexes l = AllByRecursion (KeysRise l.rows) (drop l.index-index l.indexes) → AllByRecursion (KeysRise l.rows) l.indexes
