use Rattle.std.proofs.Common.{◌∙◌, ◌++◌, ◌∷◌, [], ap, sym}
use Rattle.trigger_names.proofs.GivenRows.{next_place}
use Rattle.trigger_names.proofs.places.first_places.Goals as goal

pub places-preserved : goal.places-preserved
places-preserved c = c.in_ok-push.ensures.items ∙ (ap (λ ps. ps ++ c.places.place ∷ []) c.places.invariant ∙ sym (next_place c.places.place))
