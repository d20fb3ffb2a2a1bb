use Rattle.std.proofs.Common.{◌≡◌, ◌<◌, ap, sym, subst, ◌∙◌, ◌∷◌, [], ◌++◌, ◌+◌, ℕ, length, map, arith}
use Rattle.std.specs.Prelude.{slice_set}
use Rattle.std.specs.List.{refill}
use Rattle.std.proofs.lemmas.List.{length-append, length-map, length-set, map-append, map-set, take_at}
use Rattle.sqlval.specs.Fields.{value_of}
use Rattle.sqlval.specs.declared.value.Field.TheVariants as field
use Rattle.sqlval.specs.declared.value.Value.TheVariants.{Null}
use Rattle.query_terms.proofs.OwnPlace as own
use Rattle.query_terms.specs.Stored.{with_at}
use Rattle.query_terms.proofs.stored.put_at.Goals as goal

pub nulls-preserved : goal.nulls-preserved
nulls-preserved c =
    let pushed = c.in_ok-push.ensures.ok in
    let value = value_of c.args.field in
    let values = map value_of c.nulls.fields.items in
    let short : length values < c.args.place = omega (arith, length-map c.nulls.fields.items value_of, c.nulls.invariant, c.nulls-test.true) in (
      ap length pushed ∙ (length-append c.nulls.fields.items (field.Null ∷ []) ∙ ap (λ n. n + 1) c.nulls.invariant.0),
      ap (λ fs. with_at c.args.place value (map value_of fs)) pushed
          ∙ (ap (with_at c.args.place value) (map-append value_of c.nulls.fields.items (field.Null ∷ []))
          ∙ (own.padded c.args.place value values short ∙ c.nulls.invariant.1)),
    )

pub returns-then-place-len : goal.returns-then-place-len
returns-then-place-len c =
    let value = value_of c.args.field in
    let values = map value_of c.nulls.fields.items in
    let within : c.args.place < length values = omega (arith, length-map c.nulls.fields.items value_of, c.len.ensures, c.if-place-len.true) in
    let items = c.nulls.fields.items in
    let now = c.deref_mut.result.now in
    let same : now ≡ items = c.deref_mut.ensures.value in
    let whole : refill (length items) items (slice_set now c.args.place c.args.field) ≡ slice_set items c.args.place c.args.field =
    take_at (slice_set now c.args.place c.args.field) _ (length items) (length-set now c.args.place c.args.field ∙ ap length same) ∙ ap (λ fields. slice_set fields c.args.place c.args.field) same in
    ap (map value_of) whole
    ∙ (map-set value_of items c.args.place c.args.field
    ∙ (own.set c.args.place value values within ∙ c.nulls.invariant.1))

pub returns-in_ok-push-2 : goal.returns-in_ok-push-2
returns-in_ok-push-2 c =
    let pushed = c.in_ok-push-2.ensures.ok in
    let value = value_of c.args.field in
    let values = map value_of c.nulls.fields.items in
    let full : length values ≡ c.args.place = omega (arith, length-map c.nulls.fields.items value_of, c.nulls.invariant, c.nulls-test.false, c.len.ensures, c.if-place-len.false) in
    ap (map value_of) pushed
    ∙ (map-append value_of c.nulls.fields.items (c.args.field ∷ [])
    ∙ (own.last value values
    ∙ (ap (λ n. with_at n value values) full ∙ c.nulls.invariant.1)))
