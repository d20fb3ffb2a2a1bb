use Rattle.std.proofs.Common.{◌≡◌, ◌++◌, ◌∷◌, [], take, replicate, codes}
use Rattle.std.specs.List.{flat_map}
use Rattle.shell.proofs.boxes.put_rule.Given as goal

abbrev pub invariant-columns : goal.invariant-columns
invariant-columns l = l.out.items ≡ l.initial.out.items ++ flat_map (λ w. codes "--" ++ replicate w 45 ++ 43 ∷ []) (take l.width-index l.widths)
