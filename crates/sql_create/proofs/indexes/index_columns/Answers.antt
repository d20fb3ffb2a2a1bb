use Rattle.std.proofs.Common.{length}
use Rattle.sql_expr.specs.Symbols.{seen}
use Rattle.sql_grammar.proofs.Turns.{listed_begins, listed_goes_on}
use Rattle.sql_create.proofs.indexes.index_columns.Goals as goal
use Rattle.sql_create.specs.IndexReading.{index_column_from}

pub columns-init : goal.columns-init
columns-init c = listed_begins index_column_from c.new-columns.result c.args.spelled.now c.args.tokens.now c.new-columns.ensures

pub columns-preserved : goal.columns-preserved
columns-preserved c =
    listed_goes_on index_column_from (length c.args.tokens.now) c.columns.counter c.columns.columns _ (seen c.args.spelled.now c.columns.rest.now) c.in_ok-column.column
    (seen c.args.spelled.now c.in_ok-column.after.now) _ _ c.columns-test.true c.columns.invariant c.in_ok-column.ensures c.in_ok-push.ensures (c.in-Some.ensures c.args.spelled.now)
