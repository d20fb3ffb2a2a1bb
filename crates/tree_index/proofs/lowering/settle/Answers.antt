use Rattle.tree_index.proofs.Settling.{settled_some}
use Rattle.tree_index.proofs.lowering.settle.Goals as goal

pub returns-in-Some-clause-settled : goal.returns-in-Some-clause-settled
returns-in-Some-clause-settled g c = λ told old columns entries all used free is sorted deep plan.
    (let gs = g.P.Pages in
    let mid = gs.map c.args.pages.now in
    let size = (gs.limits (gs.below c.args.pages.now)).page in
    settled_some old size c.args.root columns entries used free is mid all sorted c.args.packed.now plan c.in-Some.child c.in-Some.ensures.lone (gs.map c.take_over.new.pages) c.take_over.result (c.take_over.ensures.taken told))
