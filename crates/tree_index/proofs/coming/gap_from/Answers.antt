use Rattle.std.proofs.Common.{sym, subst}
use Rattle.tree_index.specs.Taking.{Leaps}
use Rattle.tree_index.specs.declared.taking.Landing.{Landing}
use Rattle.tree_index.proofs.coming.gap_from.Goals as goal

pub returns-then-is_before : goal.returns-then-is_before
returns-then-is_before c = record {
  found = λ pages size read most node entries d whole has.
      (let known = subst (λ (landing : Landing). Leaps pages size c.args.number c.args.key.columns.now c.args.key.values.now landing) c.in-Gap.is (c.in_ok-place.ensures.found pages size read most) in
      let low = known.0 c.if-is_after.true in
      let before = low.1 node entries d whole has in
      let after = known.1 c.if-is_before.true node entries d whole has in
      (low.0, after.0, sym before.1, sym after.1));
}
