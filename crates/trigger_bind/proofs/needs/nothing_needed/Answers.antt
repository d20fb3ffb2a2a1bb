use Rattle.std.proofs.Common.{ap, subst, ◌∙◌, ◌∷◌, [], Bool, false, List, length, arith}
use Rattle.std.proofs.lemmas.List.{length-append}
use Rattle.trigger_bind.specs.Needs.{IsNeeded}
use Rattle.trigger_bind.proofs.Noting.{not_needed}
use Rattle.trigger_bind.proofs.needs.nothing_needed.Goals as goal

pub places-preserved : goal.places-preserved
places-preserved c = (
  (let e = ap length c.in_ok-push.ensures.items ∙ length-append c.places.needed.items (false ∷ []) in let n = c.places.invariant.0 in omega (arith, e, n)),
  λ i is. not_needed c.places.needed.items c.places.invariant.1 i (subst (λ (bs : List Bool). IsNeeded bs i) c.in_ok-push.ensures.items is),
)
