use Rattle.std.proofs.Common.{◌≡◌, map, take}
use Rattle.sqlval.specs.Fields.{value_of}
use Rattle.query_terms.proofs.rows.copies_of.Given as goal

abbrev pub invariant-fields : goal.invariant-fields
invariant-fields l = l.copies.items ≡ map value_of (take l.field-index l.fields)
