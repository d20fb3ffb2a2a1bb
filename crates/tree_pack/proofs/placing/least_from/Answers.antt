use Rattle.std.proofs.Common.{◌∙◌, ap, min}
use Rattle.tree_pack.proofs.PlacingLemmas.{least_next}
use Rattle.tree_pack.proofs.placing.least_from.Goals as goal

pub pointers-preserved : goal.pointers-preserved
pointers-preserved c =
    let before = c.pointers.invariant in
    let next = least_next c.pointers.least c.min-least.result _ c.pointers.left.now c.in-len2-up.len_at_least (c.min-least.ensures ∙ ap (min c.pointers.least) (c.first_pointer.ensures.value c.in-len2-up.len_at_least)) before.value in
    record { value = next.0 }
