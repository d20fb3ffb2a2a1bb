use Rattle.std.proofs.Common.{◌≡◌, ◌∙◌, ◌+◌, ◌≤◌, ℕ, List, ap, length, subst, take, drop, Option, Some, None}
use Rattle.std.specs.Prelude.{IfSome}
use Rattle.disk_cache.proofs.Fronts.{part_kept}
use Rattle.disk_cache.proofs.blocks.part.Goals as goal

if_some : {A : Type 0} {P Q : A → Type 0} (found : Option A) → IfSome found P → ((a : A) → P a → Q a) → IfSome found Q
if_some None is then = tt
if_some (Some a) is then = then a is

pub returns-in-Some : goal.returns-in-Some
returns-in-Some c = if_some c.part_from.result c.part_from.ensures
    (λ bytes is. (
      is.2,
      λ content end kept.
          is.1 ∙ (ap (λ (xs : List ℕ). take len (drop from xs)) value
          ∙ part_kept content end from len c.args.at c.args.block.now kept c.in-Some.ensures (subst (λ (xs : List ℕ). from + len ≤ length xs) value is.0)),
    ))
  where
    from : ℕ
    from = c.in-Some.from

    len : ℕ
    len = c.args.len

    value : c.as_slice.result.now ≡ c.args.block.now.bytes.items
    value = c.as_slice.ensures.value
