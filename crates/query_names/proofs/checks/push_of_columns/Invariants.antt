use Rattle.std.proofs.Common.{◌≡◌, drop, flat_map}
use Rattle.query_names.specs.Creating.{known_after}
use Rattle.query_names.specs.Tables.{column_check}
use Rattle.query_names.proofs.checks.push_of_columns.Given as goal

-- what is left of the columns decides
abbrev pub invariant-columns : goal.invariant-columns
invariant-columns l = known_after l.scope l.found.items (flat_map (λ c. flat_map column_check c.rules) (drop l.column-index l.columns)) ≡ known_after l.scope l.fn.found.items (flat_map (λ c. flat_map column_check c.rules) l.columns)
