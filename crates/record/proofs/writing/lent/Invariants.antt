use Rattle.std.proofs.Common.{◌≡◌, map, take}
use Rattle.sqlval.specs.Fields.{value_of}
use Rattle.record.proofs.writing.lent.Given as goal

abbrev pub invariant-values : goal.invariant-values
invariant-values l = map value_of l.fields.items ≡ take l.value-index l.values
