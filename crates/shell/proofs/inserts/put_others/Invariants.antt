use Rattle.std.proofs.Common.{◌≡◌, ◌++◌, ◌∷◌, take}
use Rattle.std.specs.List.{flat_map}
use Rattle.shell.specs.Cells.{sql_literal}
use Rattle.shell.proofs.inserts.put_others.Given as goal

abbrev pub invariant-values : goal.invariant-values
invariant-values l = l.out.items ≡ l.initial.out.items ++ flat_map (λ next. 44 ∷ sql_literal next) (take l.value-index l.values)
