use Rattle.executor.proofs.LiteralSets.{all_made, one_more}
use Rattle.executor.proofs.rows.literal_sets.Goals as goal

pub values-preserved : goal.values-preserved
values-preserved c =
    one_more c.args.values.now c.values.place c.index-values-place.result c.in_ok-literal.field-0 c.values.sets.items c.push.new.self.items c.values-test.true c.index-values-place.is c.in_ok-literal.ensures
    c.values.invariant c.in_ok-push.ensures.items

pub returns : goal.returns
returns c = all_made c.args.values.now c.values.place c.values.sets.items c.values-test.false c.values.invariant
