use Rattle.std.proofs.Common.{◌≡◌, drop, flat_map}
use Rattle.query_names.specs.Creating.{known_after}
use Rattle.query_names.specs.Tables.{table_check}
use Rattle.query_names.proofs.checks.push_of_table.Given as goal

-- what is left of the rules decides
abbrev pub invariant-rules : goal.invariant-rules
invariant-rules l = known_after l.scope l.found.items (flat_map table_check (drop l.rule-index l.rules)) ≡ known_after l.scope l.fn.found.items (flat_map table_check l.rules)
