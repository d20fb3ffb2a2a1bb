use Rattle.std.proofs.Common.{length, rules}
use Rattle.sql_expr.specs.Symbols.{seen}
use Rattle.sql_create.specs.TableReading.{column_rule_from}
use Rattle.sql_grammar.proofs.Turns.{many_begins, many_goes_on}
use Rattle.sql_create.proofs.columns.column_rules.Goals as goal

pub rules-init : goal.rules-init
rules-init c = many_begins column_rule_from c.new-rules.result c.args.spelled.now c.args.tokens.now c.new-rules.ensures

pub rules-preserved : goal.rules-preserved
rules-preserved c =
    many_goes_on column_rule_from (length c.args.tokens.now) c.rules.counter c.rules.rules _ (seen c.args.spelled.now c.rules.rest.now) c.in-Some.rule
    (seen c.args.spelled.now c.in_ok-found.after.now) _ c.rules-test.true c.rules.invariant (search rules) c.in_ok-push.ensures
