use Rattle.std.proofs.Common.{◌∙◌}
use Rattle.executor.proofs.PlacesByColumn.{none_all, none_more}
use Rattle.executor.proofs.rows.no_places.Goals as goal

pub columns-preserved : goal.columns-preserved
columns-preserved c = c.in_ok-push.ensures.items ∙ none_more c.args.columns.now c.columns.index c.columns.made.items c.columns-test.true c.columns.invariant

pub returns : goal.returns
returns c = none_all c.args.columns.now c.columns.index c.columns.made.items c.columns-test.false c.columns.invariant
