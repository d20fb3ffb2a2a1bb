-- each column so far has its name
use Rattle.std.proofs.Common.{◌≡◌, map, take}
use Rattle.sqlval.specs.Names.{folded}
use Rattle.query_names.specs.Views.{renamed}
use Rattle.query_bind.proofs.views.renamed.Given as goal

abbrev pub invariant-columns : goal.invariant-columns
invariant-columns l = l.copies.items ≡ take l.place (renamed (map folded l.names) l.columns)
