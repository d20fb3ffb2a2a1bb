use Rattle.std.proofs.Common.{length}
use Rattle.sql_expr.specs.Symbols.{seen}
use Rattle.sql_query.specs.QueryReading.{term_from}
use Rattle.sql_grammar.proofs.Turns.{listed_begins, listed_goes_on}
use Rattle.sql_query.proofs.queries.order_terms.Goals as goal

pub terms-init : goal.terms-init
terms-init c = listed_begins term_from c.new-terms.result c.args.spelled.now c.args.tokens.now c.new-terms.ensures

pub terms-preserved : goal.terms-preserved
terms-preserved c =
    listed_goes_on term_from (length c.args.tokens.now) c.terms.counter c.terms.terms _ (seen c.args.spelled.now c.terms.rest.now) c.in_ok-term.term
    (seen c.args.spelled.now c.in_ok-term.after.now) _ _ c.terms-test.true c.terms.invariant c.in_ok-term.ensures c.in_ok-push.ensures (c.in-Some.ensures c.args.spelled.now)
