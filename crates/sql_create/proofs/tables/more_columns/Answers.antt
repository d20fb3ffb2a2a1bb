use Rattle.std.proofs.Common.{rules, length}
use Rattle.sql_expr.specs.Symbols.{seen}
use Rattle.sql_create.specs.TableReading.{next_column_from}
use Rattle.sql_grammar.proofs.Turns.{many_begins_behind, many_goes_on}
use Rattle.sql_create.proofs.tables.more_columns.Goals as goal

pub columns-init : goal.columns-init
columns-init c = many_begins_behind next_column_from c.args.found c.args.spelled.now c.args.tokens.now

pub columns-preserved : goal.columns-preserved
columns-preserved c =
    many_goes_on next_column_from (length c.args.tokens.now) c.columns.counter c.columns.columns _ (seen c.args.spelled.now c.columns.rest.now) c.in-Some.column
    (seen c.args.spelled.now c.in_ok-next.after.now) _ c.columns-test.true c.columns.invariant (search rules) c.in_ok-push.ensures
