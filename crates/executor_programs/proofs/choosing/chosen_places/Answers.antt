use Rattle.std.proofs.Common.{◌∷◌, ◌++◌, [], map}
use Rattle.query_terms.specs.Rows.{picked_rows, row_at}
use Rattle.executor_programs.proofs.ChosenRows.{begins, ends, one_more, one_refused}
use Rattle.executor_programs.proofs.QuietTerms.{handed_on, test_quietly}
use Rattle.executor_programs.proofs.choosing.chosen_places.Goals as goal

pub rows-init : goal.rows-init
rows-init c =
    begins c.args.sources.now c.args.outer c.args.count c.args.condition.now c.in_ok-picked.picked.items c.new-places.result.items c.in_ok-picked.ensures c.new-places.ensures.items

pub returns-in_err-test-clause-chosen : goal.returns-in_err-test-clause-chosen
returns-in_err-test-clause-chosen c = λ beside rows is many counted.
    one_refused c.args.sources.now c.args.outer c.args.count c.args.condition.now c.rows.place c.rows.picked.items c.rows.places.items c.rows.invariant c.rows-test.true
    (λ rows places. map (row_at rows) places.items) c.from_residual-in_err-test.result c.in_err-test.field-0.0 c.from_residual-in_err-test.ensures.1 c.in_err-test.ensures.tested beside rows is many counted

pub returns-in_err-test-clause-not_disk : goal.returns-in_err-test-clause-not_disk
returns-in_err-test-clause-not_disk c =
    handed_on c.from_residual-in_err-test.result c.in_err-test.field-0.0 c.from_residual-in_err-test.ensures.1
    (test_quietly c.args.condition.now (picked_rows c.args.sources.now (c.rows.picked.items ++ c.rows.place ∷ [])) c.in_err-test.field-0.0 c.in_err-test.ensures.tested)

pub rows-preserved : goal.rows-preserved
rows-preserved c =
    one_more c.args.sources.now c.args.outer c.args.count c.args.condition.now c.rows.place c.rows.picked.items c.rows.places.items c.rows.invariant c.rows-test.true
    c.in_ok-test.test c.is_true_at.new.picked.items c.push_if.new.places.items c.in_ok-test.ensures.tested c.in_ok-test.ensures.kept c.in_ok-push_if.ensures.pushed

pub returns-clause-chosen : goal.returns-clause-chosen
returns-clause-chosen c = λ beside rows is many counted.
    ends c.args.sources.now c.args.outer c.args.count c.args.condition.now c.rows.place c.rows.picked.items c.rows.places.items c.rows.invariant c.rows-test.false beside rows is many counted
