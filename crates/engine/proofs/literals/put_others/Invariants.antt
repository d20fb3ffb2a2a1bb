use Rattle.std.proofs.Common.{◌≡◌, ◌++◌, ◌∷◌, take}
use Rattle.std.specs.List.{flat_map}
use Rattle.engine.specs.Output.{literal}
use Rattle.engine.proofs.literals.put_others.Given as goal

abbrev pub invariant-values : goal.invariant-values
invariant-values l = l.out.items ≡ l.initial.out.items ++ flat_map (λ next. 124 ∷ literal next) (take l.value-index l.values)
