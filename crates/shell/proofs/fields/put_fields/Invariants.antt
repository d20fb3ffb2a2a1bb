use Rattle.std.proofs.Common.{◌≡◌, ◌++◌, ◌∷◌, take}
use Rattle.std.specs.List.{flat_map}
use Rattle.shell.specs.Fields.{field_mark, field}
use Rattle.shell.proofs.fields.put_fields.Given as goal

abbrev pub invariant-values : goal.invariant-values
invariant-values l = l.out.items ≡ l.initial.out.items ++ flat_map (λ next. field_mark l.style ∷ field l.style next) (take l.value-index l.values)
