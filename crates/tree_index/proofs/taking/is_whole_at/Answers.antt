use Rattle.std.proofs.Common.{◌∙◌, sym}
use Rattle.tree_index.proofs.Whole.{equal_whole}
use Rattle.tree_index.proofs.taking.is_whole_at.Goals as goal

pub returns-in-Some : goal.returns-in-Some
returns-in-Some c = record {
  found = λ same pages size read most.
      equal_whole pages size c.args.number c.args.place c.args.key.columns.now c.args.key.values.now c.in-Some.order (sym c.is_eq.ensures ∙ same) (c.in-Some.ensures.found pages size read most);
}
