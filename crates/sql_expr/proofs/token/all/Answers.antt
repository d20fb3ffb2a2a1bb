use Rattle.std.proofs.Common.{ap, ◌∙◌}
use Rattle.sql_expr.specs.Symbols.{seen}
use Rattle.sql_expr.proofs.Tokens.{one_more_token}
use Rattle.sql_expr.proofs.token.all.Goals as goal

pub loop-place-preserved : goal.loop-place-preserved
loop-place-preserved c =
    ap (seen c.args.spelled.now) c.in_ok-push.ensures.items
    ∙ one_more_token c.args.spelled.now c.loop-place.tokens.items c.loop-place.place _ c.loop-place-test.true c.loop-place.invariant
