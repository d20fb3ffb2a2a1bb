use Rattle.std.proofs.Common.{[], refl, subst, sym}
use Rattle.std.specs.Prelude.{⊤, Result}
use Rattle.sqlval.specs.Refusals.{refusal_of}
use Rattle.sqlval.specs.declared.fault.Fault.{Fault}
use Rattle.sql_syntax.specs.declared.statement.Statement.TheVariants as statement
use Rattle.session.specs.Machine.{Refused, Reply, Rows}
use Rattle.session.specs.Representation.{StepsTo, done_reply, with_transaction}
use Rattle.session.specs.declared.transactions.Connections.{Connections}
use Rattle.session.specs.declared.seats.Transaction.TheVariants as transaction
use Rattle.session.proofs.Beginning.{done_refused}
use Rattle.session.proofs.SavingSteps.{out_of_memory, saved_first, still_so}
use Rattle.session.proofs.transactions.Connections.begin_savepoint.Goals as goal

pub returns-in_err-begin-clause-step : goal.returns-in_err-begin-clause-step
returns-in_err-begin-clause-step g c room idle m shown =
    let old = c.args.self.now in
    let new = record old { catalog = c.begin.new.self } in
    let s = statement.Savepoint c.args.name in
    let short = c.in_err-begin.ensures.refused in
    subst (λ (r : Reply). StepsTo old m s r new) (sym (done_refused c.from_residual.result c.in_err-begin.field-0.0 c.from_residual.ensures.1))
    (subst (λ (e : Fault). StepsTo old m s (Refused (refusal_of e)) new) (sym short.0)
    (out_of_memory old new s m shown (record { files = refl; beside = refl }) (still_so old new m shown (record { files = refl; beside = refl }) short.1 refl)))

pub returns-clause-step : goal.returns-clause-step
returns-clause-step g c room idle m shown =
    let old = c.args.self.now in
    let new = with_transaction (record old { catalog = c.begin.new.self }) transaction.Begun in
    let s = statement.Savepoint c.args.name in
    let step : StepsTo old m s (Rows []) new = saved_first old new c.args.name idle (record { files = refl; beside = refl }) c.in_ok-begin.ensures.saved refl m shown in
    subst (λ (k : Connections g.row.D.Denot g.D.Disk). StepsTo old m s (done_reply c.begin_deferred.result) k) (sym c.begin_deferred.ensures.begun)
    (subst (λ (r : Result ⊤ Fault). StepsTo old m s (done_reply r) new) (sym c.begin_deferred.ensures.done) step)
