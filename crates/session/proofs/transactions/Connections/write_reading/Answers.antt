use Rattle.std.proofs.Common.{sym, ap, subst, ◌∙◌}
use Rattle.executor_programs.specs.Writes.{written}
use Rattle.session.specs.Machine.{Reply}
use Rattle.session.specs.Representation.{StepsTo, done_reply, is_reading, with_transaction}
use Rattle.session.proofs.Beginning.{done_refused}
use Rattle.session.proofs.FirstRefusals.{may_when_reading, refused_reading, short_of}
use Rattle.session.proofs.Switching.{after_taking}
use Rattle.session.proofs.transactions.Connections.write_reading.Goals as goal

pub returns-in_err-may_write-clause-step : goal.returns-in_err-may_write-clause-step
returns-in_err-may_write-clause-step g c keeps reads m shown =
    let old = with_transaction c.args.self.now c.args.reading in
    subst (λ (r : Reply). StepsTo old m (written c.args.write) r old) (sym (done_refused c.from_residual.result c.in_err-may_write.field-0.0 c.from_residual.ensures.1))
    (refused_reading old c.args.write c.in_err-may_write.field-0.0 reads (sym c.in_err-may_write.ensures) m shown)

pub returns-in_err-take_newest-clause-step : goal.returns-in_err-take_newest-clause-step
returns-in_err-take_newest-clause-step g c keeps reads m shown =
    let old = with_transaction c.args.self.now c.args.reading in
    subst (λ (r : Reply). StepsTo old m (written c.args.write) r c.take_newest.new.self) (sym (done_refused c.from_residual-in_err-take_newest.result c.in_err-take_newest.field-0.0 c.from_residual-in_err-take_newest.ensures.1))
    (short_of old c.take_newest.new.self (written c.args.write) c.in_err-take_newest.field-0.0 c.in_err-take_newest.ensures.refused.0 c.in_err-take_newest.ensures.refused.1 m shown)

pub returns-clause-step : goal.returns-clause-step
returns-clause-step g c keeps reads =
    let old = with_transaction c.args.self.now c.args.reading in
    let takes = c.in_ok-take_newest.ensures.taken in
    after_taking old c.take_newest.new.self c.start_writing.new.self (written c.args.write) (done_reply c.start_writing.result) takes
    (c.start_writing.ensures.step keeps (ap is_reading takes.transaction ∙ reads) (may_when_reading old c.take_newest.new.self (sym c.in_ok-may_write.ensures) takes))
