use Rattle.std.proofs.Common.{◌∙◌, refl, sym, ap, Bool, List, Option, Some}
use Rattle.std.specs.Prelude.{slice_get}
use Rattle.trigger_bind.proofs.Noting.{notes_one}
use Rattle.trigger_bind.proofs.needs.note.Goals as goal

abbrev some : Bool → Option Bool
some b = Some b

pub returns-clause-noted : goal.returns-clause-noted
returns-clause-noted c =
    notes_one c.args.needs.now _ c.args.place (ap (λ (bs : List Bool). slice_get bs c.args.place) (sym c.deref.ensures.value) ∙ (c.is_needed.ensures ∙ ap some c.if-is_needed.false)) refl c.in_ok-push.ensures.items
