use Rattle.pager.proofs.Restoring.{kept_first}
use Rattle.pager.proofs.writer.Writer.set_header.Goals as goal

pub invariant_of-self : goal.invariant_of-self
invariant_of-self c = record { kept = kept_first _ _ _ _ _ _ c.args.self.now.kept c.rehead.ensures.first; room = c.args.self.now.room }
