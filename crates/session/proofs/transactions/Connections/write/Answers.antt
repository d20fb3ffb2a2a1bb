use Rattle.session.proofs.Writing.{reading_else, with_own}
use Rattle.session.specs.Representation.{done_reply, is_idle}
use Rattle.executor_programs.specs.Writes.{written}
use Rattle.session.specs.declared.seats.Transaction.TheVariants as transaction
use Rattle.std.proofs.Common.{ap, sym, ◌∙◌}
use Rattle.session.proofs.transactions.Connections.write.Goals as goal

pub returns-in-Idle-clause-step : goal.returns-in-Idle-clause-step
returns-in-Idle-clause-step g c keeps =
    with_own c.args.self.now _ c.replace.new.dest (written c.args.write) (done_reply c.autocommit.result) (sym c.replace.ensures.value ∙ c.in-Idle.is ∙ sym c.replace.ensures.after) (c.autocommit.ensures.step keeps (ap is_idle c.replace.ensures.after))

pub returns-in-Writing-clause-step : goal.returns-in-Writing-clause-step
returns-in-Writing-clause-step g c keeps =
    with_own c.args.self.now _ (transaction.Writing c.in-Writing.writer) (written c.args.write) (done_reply c.continue_writing.result) (sym c.replace.ensures.value ∙ c.in-Writing.is) (c.continue_writing.ensures.step keeps)

pub returns-in_default-clause-step : goal.returns-in_default-clause-step
returns-in_default-clause-step g c keeps =
    with_own c.args.self.now _ c.replace.result (written c.args.write) (done_reply c.write_reading.result) (sym c.replace.ensures.value)
    (c.write_reading.ensures.step keeps (reading_else c.replace.result c.in_default.not-Idle c.in_default.not-Writing))
