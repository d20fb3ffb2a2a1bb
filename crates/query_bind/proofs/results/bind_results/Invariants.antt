-- what is left of the results decides
use Rattle.query_names.specs.Checked.{onto_list}
use Rattle.std.proofs.Common.{◌≡◌, drop}
use Rattle.query_names.specs.Queries.{resolve_items}
use Rattle.query_bind.proofs.results.bind_results.Given as goal

abbrev pub invariant-items : goal.invariant-items
invariant-items l = onto_list l.found.items (resolve_items l.scope (drop l.item-index l.items)) ≡ resolve_items l.scope l.items
