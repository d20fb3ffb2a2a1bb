-- none of the keys before has an index of the name
use Rattle.db_load.proofs.KeyRows.{AreBefore}
use Rattle.db_load.proofs.automatic.key_named.Given as goal

abbrev pub invariant-keys : goal.invariant-keys
invariant-keys l = AreBefore l.table l.name l.place
