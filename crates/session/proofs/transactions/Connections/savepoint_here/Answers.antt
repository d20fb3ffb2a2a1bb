use Rattle.std.proofs.Common.{refl, sym, ap, subst, ◌∙◌}
use Rattle.sql_syntax.specs.declared.statement.Statement.TheVariants as statement
use Rattle.catalog.specs.Database.{Name}
use Rattle.sqlval.specs.declared.fault.Fault.TheVariants as fault
use Rattle.session.specs.Machine.{Reply}
use Rattle.session.proofs.Beginning.{done_refused}
use Rattle.session.specs.Representation.{StepsOn, StepsTo, done_reply, is_idle, with_transaction}
use Rattle.session.specs.declared.seats.Transaction.TheVariants as transaction
use Rattle.session.proofs.Writing.{reading_else, with_own}
use Rattle.session.proofs.SavingSteps.{out_of_memory, too_many}
use Rattle.session.proofs.transactions.Connections.savepoint_here.Goals as goal

pub returns-then-is_full-clause-step : goal.returns-then-is_full-clause-step
returns-then-is_full-clause-step g c = too_many c.args.self.now c.args.name.now (sym c.is_full.ensures ∙ c.if-is_full.true)

pub returns-in_err-copy-clause-step : goal.returns-in_err-copy-clause-step
returns-in_err-copy-clause-step g c m shown =
    let old = c.args.self.now in
    let s = statement.Savepoint c.args.name.now in
    subst (λ (r : Reply). StepsTo old m s r old) (sym (done_refused c.from_residual.result fault.Memory c.from_residual.ensures.1)) (out_of_memory old old s m shown (record { files = refl; beside = refl }) shown)

pub returns-in-Idle-clause-step : goal.returns-in-Idle-clause-step
returns-in-Idle-clause-step g c =
    with_own c.args.self.now _ c.replace.new.dest (statement.Savepoint c.args.name.now) (done_reply c.begin_savepoint.result) (sym c.replace.ensures.value ∙ c.in-Idle.is ∙ sym c.replace.ensures.after)
    (subst (λ (n : Name). StepsOn (with_transaction c.args.self.now c.replace.new.dest) (statement.Savepoint n) (done_reply c.begin_savepoint.result) c.begin_savepoint.new.self) c.in_ok-copy.ensures
    (c.begin_savepoint.ensures.step (sym c.is_full.ensures ∙ c.if-is_full.false) (ap is_idle c.replace.ensures.after)))

pub returns-in-Writing-clause-step : goal.returns-in-Writing-clause-step
returns-in-Writing-clause-step g c =
    with_own c.args.self.now _ (transaction.Writing c.in-Writing.writer) (statement.Savepoint c.args.name.now) (done_reply c.save_writing.result) (sym c.replace.ensures.value ∙ c.in-Writing.is)
    (subst (λ (n : Name). StepsOn (with_transaction c.args.self.now (transaction.Writing c.in-Writing.writer)) (statement.Savepoint n) (done_reply c.save_writing.result) c.save_writing.new.self) c.in_ok-copy.ensures
    (c.save_writing.ensures.step (sym c.is_full.ensures ∙ c.if-is_full.false)))

pub returns-in_default-clause-step : goal.returns-in_default-clause-step
returns-in_default-clause-step g c =
    with_own c.args.self.now _ c.replace.result (statement.Savepoint c.args.name.now) (done_reply c.save_reading.result) (sym c.replace.ensures.value)
    (subst (λ (n : Name). StepsOn (with_transaction c.args.self.now c.replace.result) (statement.Savepoint n) (done_reply c.save_reading.result) c.save_reading.new.self) c.in_ok-copy.ensures
    (c.save_reading.ensures.step (sym c.is_full.ensures ∙ c.if-is_full.false) (reading_else c.replace.result c.in_default.not-Idle c.in_default.not-Writing)))
