use Rattle.std.proofs.Common.{arith}
use Rattle.disk_cache.proofs.blocks.fill.Goals as goal

pub returns-then-not-add_blank-clause-few : goal.returns-then-not-add_blank-clause-few
returns-then-not-add_blank-clause-few c = omega (arith, c.add_blank.ensures.few, c.blocks-2.invariant.0, c.blocks-2-test.true)

pub returns-then-not-add_blank-clause-kept : goal.returns-then-not-add_blank-clause-kept
returns-then-not-add_blank-clause-kept c = λ content end kept. c.add_blank.ensures.kept content end (c.blocks-2.invariant.1 content end kept)

pub blocks-2-preserved : goal.blocks-2-preserved
blocks-2-preserved c = (omega (arith, c.add_blank.ensures.few, c.blocks-2.invariant.0), λ content end kept. c.add_blank.ensures.kept content end (c.blocks-2.invariant.1 content end kept))
