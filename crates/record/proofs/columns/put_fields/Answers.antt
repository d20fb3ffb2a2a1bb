use Rattle.std.proofs.Common.{◌≡◌, ◌∷◌, ◌∙◌, ap, ℕ, List, [], Some, map, arith, ◌+◌, ◌≤◌, ◌++◌, length}
use Rattle.std.proofs.lemmas.Bool.{false≢true}
use Rattle.std.proofs.lemmas.List.{map-append, length-append, length-map}
use Rattle.sqlval.specs.Fields.{value_of}
use Rattle.record.specs.Columns.{left_after, values_from}
use Rattle.record.proofs.InPlace.{typed_is, typed_leaves, values_on}
use Rattle.record.proofs.columns.put_fields.Goals as goal

pub columns-preserved : goal.columns-preserved
columns-preserved c =
    let types = c.columns.types_left.now in
    let bodies = c.columns.bodies_left.now in
    let left = c.in-Some.types_after.now in
    let field = c.field_typed.result.0 in
    let leaves : Some (left, c.field_typed.result.1.now) ≡ left_after types bodies =
    ap (λ (bodies : List ℕ). Some (left, bodies)) c.field_typed.ensures.left ∙ typed_leaves types bodies c.in-Some.serial left c.in-Some.ensures.exact in
    let value = c.field_typed.ensures.value ∙ typed_is types bodies c.in-Some.serial left c.in-Some.ensures.exact in (
      rw (c.in_ok-push.ensures.ok, map-append value_of c.columns.fields.items (field ∷ [])) (values_on (map value_of c.columns.fields.items) _ types bodies left c.field_typed.result.1.now _ leaves value c.columns.invariant.0),
      omega (arith, c.in_ok-push.ensures.capacity, c.columns.invariant.1),
    )

pub returns-in_err-push-clause-room : goal.returns-in_err-push-clause-room
returns-in_err-push-clause-room c fits =
    let types = c.columns.types_left.now in
    let bodies = c.columns.bodies_left.now in
    let left = c.in-Some.types_after.now in
    let field = c.field_typed.result.0 in
    let after = c.field_typed.result.1.now in
    let leaves : Some (left, after) ≡ left_after types bodies =
    ap (λ (bodies : List ℕ). Some (left, bodies)) c.field_typed.ensures.left ∙ typed_leaves types bodies c.in-Some.serial left c.in-Some.ensures.exact in
    let value = c.field_typed.ensures.value ∙ typed_is types bodies c.in-Some.serial left c.in-Some.ensures.exact in
    let front = map value_of c.columns.fields.items in
    let total = ap length (values_on front _ types bodies left after (value_of field) leaves value c.columns.invariant.0) in
    let room : length c.columns.fields.items + 1 ≤ c.columns.fields.capacity =
    omega (
      arith,
      total,
      length-append (front ++ value_of field ∷ []) (values_from (length left) left after),
      length-append front (value_of field ∷ []),
      length-append (map value_of c.args.fields.now.items) (values_from (length c.args.types.now) c.args.types.now c.args.bodies.now),
      length-map c.columns.fields.items value_of,
      length-map c.args.fields.now.items value_of,
      fits,
      c.columns.invariant.1,
    ) in
    absurd (false≢true (c.in_err-push.ensures.succeeds room))
