-- what is left of SET decides
use Rattle.std.proofs.Common.{◌≡◌, drop, map, zip}
use Rattle.sqlval.specs.Fields.{value_of}
use Rattle.query_terms.specs.Rows.{datum}
use Rattle.row_change.specs.Constraints.{set_values}
use Rattle.row_change.proofs.keeping.put_given.Given as goal

abbrev pub invariant-sets : goal.invariant-sets
invariant-sets l =
    set_values (map value_of l.fields.items) (zip (map (λ s. s.0) (drop l.index l.sets)) (map datum (drop l.index l.given)))
    ≡ set_values (map value_of l.fn.fields.items) (zip (map (λ s. s.0) l.sets) (map datum l.given))
