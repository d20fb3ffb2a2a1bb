use Rattle.std.proofs.Common.{◌≡◌, ◌∙◌, ap, sym, length, map, slice_set}
use Rattle.std.specs.List.{refill}
use Rattle.std.proofs.lemmas.List.{length-set, map-set, take_at}
use Rattle.sqlval.specs.Fields.{value_of}
use Rattle.sqlval.specs.declared.value.Field.TheVariants as field
use Rattle.catalog.specs.Rows.{in_record}
use Rattle.row_change.proofs.keeping.hide_own.Goals as goal

pub returns-then-place-len : goal.returns-then-place-len
returns-then-place-len c =
    let items = c.args.fields.now.items in
    let place = c.in-Some.place in
    let now = c.deref_mut.result.now in
    let same : now ≡ items = c.deref_mut.ensures.value in
    let whole : refill (length items) items (slice_set now place field.Null) ≡ slice_set items place field.Null =
    take_at (slice_set now place field.Null) _ (length items) (length-set now place field.Null ∙ ap length same) ∙ ap (λ fields. slice_set fields place field.Null) same in
    ap (map value_of) whole ∙ (map-set value_of items place field.Null ∙ sym (ap (λ own. in_record own (map value_of items)) c.in-Some.is))
