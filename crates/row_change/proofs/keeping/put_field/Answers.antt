use Rattle.std.proofs.Common.{◌≡◌, ◌∙◌, ap, length, map, slice_set}
use Rattle.std.specs.List.{refill}
use Rattle.std.proofs.lemmas.List.{length-set, map-set, take_at}
use Rattle.sqlval.specs.Fields.{value_of}
use Rattle.row_change.proofs.keeping.put_field.Goals as goal

pub returns-then-place-len : goal.returns-then-place-len
returns-then-place-len c =
    let items = c.args.fields.now.items in
    let now = c.deref_mut.result.now in
    let same : now ≡ items = c.deref_mut.ensures.value in
    let whole : refill (length items) items (slice_set now c.args.place c.args.field) ≡ slice_set items c.args.place c.args.field =
    take_at (slice_set now c.args.place c.args.field) _ (length items) (length-set now c.args.place c.args.field ∙ ap length same) ∙ ap (λ fields. slice_set fields c.args.place c.args.field) same in
    ap (map value_of) whole ∙ map-set value_of items c.args.place c.args.field
