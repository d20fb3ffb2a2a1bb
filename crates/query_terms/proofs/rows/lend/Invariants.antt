use Rattle.std.proofs.Common.{◌≡◌, map, take}
use Rattle.sqlval.specs.Fields.{value_of}
use Rattle.query_terms.proofs.rows.lend.Given as goal

abbrev pub invariant-values : goal.invariant-values
invariant-values l = map value_of l.fields.items ≡ take l.value-index l.values
