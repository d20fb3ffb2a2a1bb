use Rattle.std.proofs.Common.{rules, arith}
use Rattle.std.proofs.lemmas.Grind.{common_steps}
use Rattle.sql_expr.specs.Symbols.{seen}
use Rattle.sql_expr.specs.Reading.{names_upto}
use Rattle.sql_expr.proofs.Turns.{one_more_seen}
use Rattle.sql_expr.proofs.naming.names.Goals as goal

pub returns-in_default : goal.returns-in_default
unfolding names_upto
returns-in_default c =
    let e = one_more_seen (λ n. names_upto n c.names.names (seen c.args.spelled.now c.names.rest.now)) c.args.spelled.now c.args.tokens.now c.names.counter c.names-test.true c.names.invariant in
    first_of (search rules, grind (arith, common_steps))

pub names-preserved : goal.names-preserved
unfolding names_upto
names-preserved c =
    let e = one_more_seen (λ n. names_upto n c.names.names (seen c.args.spelled.now c.names.rest.now)) c.args.spelled.now c.args.tokens.now c.names.counter c.names-test.true c.names.invariant in
    first_of (search rules, grind (arith, common_steps))
