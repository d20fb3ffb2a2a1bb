use Rattle.std.proofs.Common.{◌≡◌, ◌∙◌, true, false, length, nat_lt, refl, sym, rules}
use Rattle.query_bind.proofs.Readings.{astray_refused, many_refused, mixed_as, mixed_refused, passed}
use Rattle.query_bind.proofs.querying.check_parts.Goals as goal

pub returns-then-is_mixed : goal.returns-then-is_mixed
returns-then-is_mixed c = λ hr ho.
    mixed_refused c.args.outer c.args.query.now c.args.parts.now _ (sym (mixed_as c.args.outer c.args.parts.now c.args.results.now c.args.orders.now hr ho) ∙ (sym c.is_mixed.ensures ∙ c.if-is_mixed.true)) refl

pub returns-then-is_astray : goal.returns-then-is_astray
returns-then-is_astray c = λ hr ho. astray_refused c.args.outer c.args.query.now c.args.parts.now _ (sym c.is_astray.ensures ∙ c.if-is_astray.true) refl

pub returns-then-len-gt-MAX_COLUMNS : goal.returns-then-len-gt-MAX_COLUMNS
returns-then-len-gt-MAX_COLUMNS c = λ hr ho.
    let many : nat_lt 64 (length c.args.parts.now.results.items) ≡ true = search rules in
    many_refused c.args.outer c.args.query.now c.args.parts.now _ many refl

pub returns : goal.returns
returns c = λ hr ho.
    let few : nat_lt 64 (length c.args.parts.now.results.items) ≡ false = search rules in
    passed c.args.outer c.args.query.now c.args.parts.now (sym (mixed_as c.args.outer c.args.parts.now c.args.results.now c.args.orders.now hr ho) ∙ (sym c.is_mixed.ensures ∙ c.if-is_mixed.false))
    (sym c.is_astray.ensures ∙ c.if-is_astray.false) few
