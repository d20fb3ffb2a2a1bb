use Rattle.std.proofs.Common.{sym, subst}
use Rattle.pager.specs.Undo.{IsKept}
use Rattle.pager.proofs.writer.Writer.join_pages.Goals as goal

pub invariant_of-self : goal.invariant_of-self
invariant_of-self c =
    let self = c.args.self.now in
    record { kept = subst (λ ps. IsKept self.stamp self.saved.items ps self.stamps.items self.marks.items) (sym c.join.ensures.same) self.kept; room = self.room }
