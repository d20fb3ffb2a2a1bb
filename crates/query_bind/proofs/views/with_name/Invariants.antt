-- each name so far is copied
use Rattle.std.proofs.Common.{◌≡◌, ◌∷◌, take}
use Rattle.sqlval.specs.Names.{folded}
use Rattle.query_bind.proofs.views.with_name.Given as goal

abbrev pub invariant-names : goal.invariant-names
invariant-names l = l.all.items ≡ folded l.name ∷ take l.other-index l.names
