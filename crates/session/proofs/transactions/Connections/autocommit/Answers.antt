use Rattle.std.proofs.Common.{sym, ap, subst, ◌∙◌}
use Rattle.executor_programs.specs.Writes.{written}
use Rattle.session.specs.Machine.{Reply}
use Rattle.session.specs.Representation.{StepsTo, done_reply, is_idle}
use Rattle.session.proofs.Beginning.{done_refused}
use Rattle.session.proofs.FirstRefusals.{busy_alone, may_when_idle, short_of}
use Rattle.session.proofs.Switching.{after_taking}
use Rattle.session.proofs.transactions.Connections.autocommit.Goals as goal

pub returns-then-is_busy-clause-step : goal.returns-then-is_busy-clause-step
returns-then-is_busy-clause-step g c keeps idle = busy_alone c.args.self.now c.args.write idle (sym c.is_busy.ensures ∙ c.if-is_busy.true)

pub returns-in_err-take_newest-clause-step : goal.returns-in_err-take_newest-clause-step
returns-in_err-take_newest-clause-step g c keeps idle m shown =
    subst (λ (r : Reply). StepsTo c.args.self.now m (written c.args.write) r c.take_newest.new.self) (sym (done_refused c.from_residual.result c.in_err-take_newest.field-0.0 c.from_residual.ensures.1))
    (short_of c.args.self.now c.take_newest.new.self (written c.args.write) c.in_err-take_newest.field-0.0 c.in_err-take_newest.ensures.refused.0 c.in_err-take_newest.ensures.refused.1 m shown)

pub returns-clause-step : goal.returns-clause-step
returns-clause-step g c keeps idle =
    let old = c.args.self.now in
    let takes = c.in_ok-take_newest.ensures.taken in
    after_taking old c.take_newest.new.self c.write_alone.new.self (written c.args.write) (done_reply c.write_alone.result) takes
    (c.write_alone.ensures.step keeps (ap is_idle takes.transaction ∙ idle) (may_when_idle old c.take_newest.new.self idle (sym c.is_busy.ensures ∙ c.if-is_busy.false) takes))
