use Rattle.std.proofs.Common.{◌∙◌, ap, min}
use Rattle.tree_pack.proofs.PlacingLemmas.{least_some}
use Rattle.tree_pack.proofs.placing.least_pointer.Goals as goal

pub returns-clause-value : goal.returns-clause-value
returns-clause-value c =
    c.min.ensures ∙ ap (min c.args.most) c.from.ensures
    ∙ least_some c.args.most c.first_pointer.result c.least_from-least.result c.args.pointers.now c.in-len2-up.len_at_least (c.first_pointer.ensures.value c.in-len2-up.len_at_least) c.least_from-least.ensures.value
