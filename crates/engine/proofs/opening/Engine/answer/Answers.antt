use Rattle.std.proofs.Common.{inr, sym, subst, ◌∙◌}
use Rattle.session.specs.Machine as machine
use Rattle.engine.specs.Representation.{StepsByText}
use Rattle.engine.proofs.Marked.{counted_marks}
use Rattle.engine.proofs.PastLimits.{refused_reply}
use Rattle.engine.proofs.Served.{same_reply}
use Rattle.engine.proofs.opening.Engine.answer.Goals as goal

pub returns : goal.returns
returns g c = inr (inr (
  sym c.has_failed.ensures ∙ c.if-has_failed.false,
  record {
    connection = c.in_ok-connection.connection;
    statement = c.in_ok-connection.text.now;
    says = c.in_ok-connection.ensures.found.0;
    fits = c.in_ok-connection.ensures.found.1;
    step = subst (λ (r : machine.Reply). StepsByText c.args.self.now c.in_ok-connection.connection c.in_ok-connection.text.now r c.execute.new.self) (same_reply c.execute.result) c.execute.ensures.step;
    counted = counted_marks c.execute.result c.args.self.now c.execute.new.self c.execute.ensures.counted;
    full = λ is. c.execute.ensures.full (refused_reply c.execute.result _ is);
    early = λ s reads mode checkpoint is. c.execute.ensures.early s reads mode checkpoint (refused_reply c.execute.result _ is);
  },
))
