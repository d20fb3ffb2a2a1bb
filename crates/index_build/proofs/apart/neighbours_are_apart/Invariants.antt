-- the records so far are compared
use Rattle.std.proofs.Common.{map}
use Rattle.sqlval.specs.Fields.{value_of}
use Rattle.index_build.proofs.KeysApart.{HasCome}
use Rattle.index_build.proofs.apart.neighbours_are_apart.Given as goal

abbrev pub invariant-records : goal.invariant-records
invariant-records l = HasCome l.columns (map (λ bytes. bytes.items) l.records) l.index l.before (value_of l.first)
