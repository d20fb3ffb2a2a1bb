use Rattle.std.proofs.Common.{length, rules}
use Rattle.sql_expr.specs.Symbols.{seen}
use Rattle.sql_expr.specs.Reading.{maybe_name_from}
use Rattle.sql_grammar.proofs.Turns.{many_begins, many_goes_on}
use Rattle.sql_create.proofs.columns.type_words.Goals as goal

pub words-init : goal.words-init
words-init c = many_begins maybe_name_from c.new-words.result c.args.spelled.now c.args.tokens.now c.new-words.ensures

pub words-preserved : goal.words-preserved
words-preserved c =
    many_goes_on maybe_name_from (length c.args.tokens.now) c.words.counter c.words.words _ (seen c.args.spelled.now c.words.rest.now) c.in-Some.word
    (seen c.args.spelled.now c.in_ok-found.after.now) _ c.words-test.true c.words.invariant (search rules) c.in_ok-push.ensures
