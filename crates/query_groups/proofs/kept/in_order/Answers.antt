use Rattle.std.proofs.lemmas.Map.Iter.{rest_all}
use Rattle.query_groups.specs.declared.kept.Group.{Group}
use Rattle.query_groups.proofs.Listed.{all_listed}
use Rattle.query_groups.proofs.kept.in_order.Goals as goal

pub returns : goal.returns
returns c =
    all_listed c.groups.groups.items c.groups.group-iterator c.args.by_key.entries (rest_all (λ (g : Group). g) c.groups.group-iterator c.next.new.self c.next.result c.in-None.is c.next.ensures.steps) c.groups.invariant
