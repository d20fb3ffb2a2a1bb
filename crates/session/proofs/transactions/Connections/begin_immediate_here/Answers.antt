use Rattle.std.proofs.Common.{sym, ap, subst, ◌∙◌}
use Rattle.session.specs.Machine.{Reply}
use Rattle.session.specs.Representation.{StepsTo, done_reply, is_idle}
use Rattle.sql_syntax.specs.declared.statement.BeginMode.TheVariants as begins
use Rattle.sql_syntax.specs.declared.statement.Statement.TheVariants as statement
use Rattle.session.proofs.Beginning.{begin_busy, done_refused}
use Rattle.session.proofs.FirstRefusals.{may_when_idle, short_of}
use Rattle.session.proofs.Switching.{after_taking}
use Rattle.session.proofs.transactions.Connections.begin_immediate_here.Goals as goal

pub returns-then-is_busy-clause-step : goal.returns-then-is_busy-clause-step
returns-then-is_busy-clause-step g c idle = begin_busy c.args.self.now idle (sym c.is_busy.ensures ∙ c.if-is_busy.true)

pub returns-in_err-take_newest-clause-step : goal.returns-in_err-take_newest-clause-step
returns-in_err-take_newest-clause-step g c idle m shown =
    subst (λ (r : Reply). StepsTo c.args.self.now m (statement.Begin begins.Immediate) r c.take_newest.new.self) (sym (done_refused c.from_residual.result c.in_err-take_newest.field-0.0 c.from_residual.ensures.1))
    (short_of c.args.self.now c.take_newest.new.self (statement.Begin begins.Immediate) c.in_err-take_newest.field-0.0 c.in_err-take_newest.ensures.refused.0 c.in_err-take_newest.ensures.refused.1 m shown)

pub returns-clause-step : goal.returns-clause-step
returns-clause-step g c idle =
    let old = c.args.self.now in
    let takes = c.in_ok-take_newest.ensures.taken in
    after_taking old c.take_newest.new.self c.begin_writing.new.self (statement.Begin begins.Immediate) (done_reply c.begin_writing.result) takes
    (c.begin_writing.ensures.step (ap is_idle takes.transaction ∙ idle) (may_when_idle old c.take_newest.new.self idle (sym c.is_busy.ensures ∙ c.if-is_busy.false) takes))
