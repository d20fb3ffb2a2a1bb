-- what is left of the row decides
use Rattle.std.proofs.Common.{◌≡◌, drop, false, map}
use Rattle.query_names.specs.Checked.{known_all, onto_list}
use Rattle.query_names.specs.Expressions.{resolve}
use Rattle.trigger_names.proofs.giving.bind_row.Given as goal

abbrev pub invariant-trees : goal.invariant-trees
invariant-trees l = onto_list l.terms (known_all (map (resolve false l.scope) (drop l.tree-index l.row))) ≡ known_all (map (resolve false l.scope) l.row)
