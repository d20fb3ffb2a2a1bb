-- what is left of SET decides
use Rattle.std.proofs.Common.{◌≡◌, drop}
use Rattle.query_terms.specs.Rows.{seen}
use Rattle.row_change.specs.Setting.{set_over}
use Rattle.row_change.proofs.setting.set_each.Given as goal

abbrev pub invariant-sets : goal.invariant-sets
invariant-sets l = set_over (drop l.place-index l.sets) (seen l.env) l.values.items ≡ set_over l.sets (seen l.env) l.fn.values.items
