use Rattle.std.proofs.Common.{rules, refl, arith}
use Rattle.index_build.proofs.Ranks.{decides, leaves, rowid_decides}
use Rattle.index_build.proofs.entries.compare_entries.Goals as goal

pub columns-init : goal.columns-init
columns-init c = record { low = omega arith; same = refl }

pub returns-then-is_ne : goal.returns-then-is_ne
returns-then-is_ne c =
    decides c.args.columns.now c.args.a.now c.args.b.now c.columns.index _ c.compare_at-found.result c.columns.invariant c.columns-test.true c.compare_at-found.ensures (search rules)

pub columns-preserved : goal.columns-preserved
columns-preserved c =
    leaves c.args.columns.now c.args.a.now c.args.b.now c.columns.index _ c.compare_at-found.result c.columns.invariant c.columns-test.true c.compare_at-found.ensures (search rules)

pub returns : goal.returns
returns c = rowid_decides c.args.columns.now c.args.a.now c.args.b.now c.columns.index c.compare_at.result c.columns.invariant (omega (arith, c.columns-test.false)) c.compare_at.ensures
