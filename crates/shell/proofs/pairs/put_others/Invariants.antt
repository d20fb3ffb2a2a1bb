use Rattle.std.proofs.Common.{◌≡◌, ◌++◌, ◌∷◌, map, take}
use Rattle.std.specs.List.{flat_map}
use Rattle.shell.specs.Fields.{row_values}
use Rattle.shell.specs.Pairs.{named_values}
use Rattle.shell.proofs.pairs.put_others.Given as goal

abbrev pub invariant-rows : goal.invariant-rows
invariant-rows l = l.out.items ≡ l.initial.out.items ++ flat_map (λ row. 10 ∷ named_values l.most l.names row) (map row_values (take l.row-index l.rows))
