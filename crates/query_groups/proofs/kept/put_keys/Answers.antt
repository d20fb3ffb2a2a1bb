use Rattle.std.proofs.Common.{◌≡◌, ◌∙◌, ◌<◌, ◌+◌, ◌++◌, ℕ, List, ap, arith, drop, length, subst, sym}
use Rattle.std.specs.Prelude.{false}
use Rattle.sort_keys.specs.Keys.{IsHeld, keys_from, value_key}
use Rattle.query_names.specs.Readings.{sort_keys}
use Rattle.query_groups.proofs.KeyBytes.{all_held, held_more, none_left, one_key, with_none}
use Rattle.query_groups.proofs.kept.put_keys.Goals as goal

pub places-preserved : goal.places-preserved
places-preserved c =
    let ts = c.args.key_terms.now in
    let vs = c.args.keys.now in
    let i = c.places.place in
    let lt : i < length vs = (let test = c.places-test.true in let end = c.places.auto.place-end in omega (arith, test, end)) in (
      λ size. ap (λ (os : List ℕ). os ++ keys_from (i + 1) (drop (i + 1) (sort_keys ts)) vs)
          (c.in_ok-put_key.ensures.ok ∙ (λ j. c.places.out.items ++ value_key (record { collation = c.collation_at.ensures j; descending = false }) (c.field_at.ensures j)))
          ∙ (one_key ts vs i c.places.out.items (subst (λ n. i < n) size lt) ∙ c.places.invariant.0 size),
      held_more vs i c.places.invariant.1 (subst IsHeld c.field_at.ensures c.put_key.ensures.held),
    )

pub returns-clause-bytes : goal.returns-clause-bytes
returns-clause-bytes c =
    let ts = c.args.key_terms.now in
    let vs = c.args.keys.now in
    let i = c.places.place in
    let all : i ≡ length vs = (let test = c.places-test.false in let end = c.places.auto.place-end in omega (arith, test, end)) in
    λ size. sym (with_none c.places.out.items (keys_from i (drop i (sort_keys ts)) vs) (none_left ts vs i (all ∙ size))) ∙ c.places.invariant.0 size

pub returns-clause-held : goal.returns-clause-held
returns-clause-held c =
    let vs = c.args.keys.now in
    let i = c.places.place in
    let all : i ≡ length vs = (let test = c.places-test.false in let end = c.places.auto.place-end in omega (arith, test, end)) in
    all_held vs i (sym all) c.places.invariant.1
