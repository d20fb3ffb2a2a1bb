use Rattle.std.proofs.Common.{◌≡◌, ◌++◌, ◌∷◌, [], arith, ap, ◌∙◌, sym}
use Rattle.std.specs.List.{flat_map}
use Rattle.sqlval.specs.Fields.{value_of}
use Rattle.kinolavust_c.specs.Replies.{value_bytes}
use Rattle.kinolavust_c.proofs.Decoding.{all_read, one_is_left, next_read, read_on}
use Rattle.kinolavust_c.proofs.values.values_of.Goals as goal

pub returns-in_default-clause-only : goal.returns-in_default-clause-only
returns-in_default-clause-only c values are =
    let left = c.values.invariant.0 values are in
    absurd (one_is_left left.0 c.values.left.now left.2 (λ none. grind (arith, none, c.is_empty.ensures, c.values-test.true)) c.in_default.ensures.only)

pub values-preserved : goal.values-preserved
values-preserved c =
    let read = c.values.values.items in
    let bytes = c.values.left.now in
    let rest = c.in-Some.rest.now in
    let value = value_of c.in-Some.value in
    let items : c.push.new.self.items ≡ read ++ (value ∷ []) = c.in_ok-push.ensures.items ∙ ap (λ it. read ++ (it ∷ [])) c.in_ok-to_value.ensures in (
      (λ values are.
          let left = c.values.invariant.0 values are in
          let next = next_read values read left.0 bytes rest value left.1 left.2 (λ none. grind (arith, none, c.is_empty.ensures, c.values-test.true)) c.in-Some.ensures.only in
          (next.0, next.1 ∙ ap (λ it. it ++ next.0) (sym items), next.2)),
      read_on c.args.bytes.now bytes rest read value c.values.invariant.1 c.in-Some.ensures.found ∙ ap (λ it. flat_map value_bytes it ++ rest) (sym items),
    )

pub returns-clause-only : goal.returns-clause-only
returns-clause-only c values are =
    let left = c.values.invariant.0 values are in
    all_read values c.values.values.items left.0 c.values.left.now left.1 left.2 (grind (arith, c.is_empty.ensures, c.values-test.false))
