use Rattle.std.proofs.Common.{◌≡◌, Some, map, take}
use Rattle.sqlval.specs.Fields.{value_of}
use Rattle.query_terms.specs.Values.{at_row}
use Rattle.query_terms.proofs.shown.ShownRow.read_fields.Given as goal

abbrev pub invariant-places : goal.invariant-places
invariant-places l = map value_of l.fields.items ≡ map (at_row (Some l.self.row)) (take l.place-index l.self.places.value.items)
