use Rattle.std.proofs.Common.{refl, sym, ◌∙◌}
use Rattle.sql_expr.proofs.Operators.{tail_seen}
use Rattle.sql_expr.proofs.following.turn_of.Goals as goal

pub returns-in-Some : goal.returns-in-Some
returns-in-Some c = λ whole inner room rank left.
    tail_seen inner room rank left whole c.args.tokens.now _ c.in-Some.op refl (sym c.operator.ensures ∙ c.in-Some.is)
