use Rattle.std.proofs.Common.{◌≡◌, ◌++◌, ◌∷◌, take}
use Rattle.std.specs.List.{flat_map}
use Rattle.shell.specs.Fields.{field_mark, title}
use Rattle.shell.proofs.fields.put_titles.Given as goal

abbrev pub invariant-names : goal.invariant-names
invariant-names l = l.out.items ≡ l.initial.out.items ++ flat_map (λ next. field_mark l.style ∷ title l.style next) (take l.name-index l.names)
