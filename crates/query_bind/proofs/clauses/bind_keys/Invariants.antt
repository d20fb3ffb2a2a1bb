-- what is left of the list decides
use Rattle.std.proofs.Common.{◌≡◌, drop, false, map}
use Rattle.query_names.specs.Checked.{known_all, onto_list}
use Rattle.query_names.specs.Expressions.{resolve}
use Rattle.query_bind.proofs.clauses.bind_keys.Given as goal

abbrev pub invariant-trees : goal.invariant-trees
invariant-trees l = onto_list l.keys.items (known_all (map (resolve false l.scope) (drop l.tree-index l.trees))) ≡ known_all (map (resolve false l.scope) l.trees)
