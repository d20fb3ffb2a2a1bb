use Rattle.std.proofs.Common.{◌∷◌, ◌++◌, ◌∙◌, [], ap, map, refl, subst, sym}
use Rattle.sqlval.specs.Refusals as refusal
use Rattle.sqlval.specs.Refusals.{refusal_of}
use Rattle.sqlval.specs.declared.fault.Fault.TheVariants as fault
use Rattle.sql_syntax.specs.declared.statement.Statement.TheVariants as statement
use Rattle.row_scan.specs.Rows.{values_of}
use Rattle.session.specs.CopiedBack.{numbers_of}
use Rattle.session.specs.ConnectionState.{files_of}
use Rattle.session.specs.Machine.{Refused, Reply}
use Rattle.session.specs.Representation.{StepsOn, StepsTo, rows_reply}
use Rattle.session.proofs.CheckpointSteps.{answered_copies, checkpoint_done, checkpoint_failed, checkpoint_refused}
use Rattle.session.proofs.Executing.{never_short, refused_copies, short_of}
use Rattle.session.proofs.SavingSteps.{out_of_memory}
use Rattle.session.proofs.Selecting.{refused_reply}
use Rattle.session.proofs.transactions.Connections.checkpoint.Goals as goal

pub returns-then-not-is_idle-clause-step : goal.returns-then-not-is_idle-clause-step
returns-then-not-is_idle-clause-step g c = checkpoint_refused c.args.self.now c.args.mode (sym c.is_idle.ensures ∙ c.if-not-is_idle.true)

pub returns-in_err-rows-clause-step : goal.returns-in_err-rows-clause-step
returns-in_err-rows-clause-step g c m shown =
    let old = c.args.self.now in
    subst (λ (r : Reply). StepsTo old m (statement.Checkpoint c.args.mode) r old) (sym (refused_reply c.from_residual.result fault.Memory c.from_residual.ensures.1))
    (out_of_memory old old (statement.Checkpoint c.args.mode) m shown (record { files = refl; beside = refl }) shown)

pub returns-in_err-counts-clause-step : goal.returns-in_err-counts-clause-step
returns-in_err-counts-clause-step g c =
    subst (λ (r : Reply). StepsOn c.args.self.now (statement.Checkpoint c.args.mode) r c.copy_back.new.self) (sym (refused_reply c.from_residual-in_err-counts.result c.in_err-counts.field-0.0 c.from_residual-in_err-counts.ensures.1))
    (checkpoint_failed c.args.self.now c.copy_back.new.self c.args.mode c.in_err-counts.field-0.0 (sym c.is_idle.ensures ∙ c.if-not-is_idle.false) c.in_err-counts.ensures.seats c.in_err-counts.ensures.copies)

pub returns-clause-step : goal.returns-clause-step
returns-clause-step g c =
    checkpoint_done c.args.self.now c.copy_back.new.self c.args.mode c.in_ok-counts.counts (map values_of c.put_counts.new.rows.items) (sym c.is_idle.ensures ∙ c.if-not-is_idle.false)
    c.in_ok-counts.ensures.seats c.in_ok-counts.ensures.copies
    (c.put_counts.ensures ∙ ap (λ xs. map values_of xs ++ (numbers_of c.in_ok-counts.counts ∷ [])) c.in_ok-rows.ensures.items)

pub returns-then-not-is_idle-clause-copied : goal.returns-then-not-is_idle-clause-copied
returns-then-not-is_idle-clause-copied g c =
    refused_copies c.args.self.now.parked.items (files_of c.args.self.now) (files_of c.args.self.now) (statement.Checkpoint c.args.mode) (Refused refusal.InTransaction) refusal.InTransaction refl

pub returns-in_err-rows-clause-copied : goal.returns-in_err-rows-clause-copied
returns-in_err-rows-clause-copied g c =
    refused_copies c.args.self.now.parked.items (files_of c.args.self.now) (files_of c.args.self.now) (statement.Checkpoint c.args.mode) (rows_reply c.from_residual.result) refusal.Memory
    (refused_reply c.from_residual.result fault.Memory c.from_residual.ensures.1)

pub returns-in_err-counts-clause-copied : goal.returns-in_err-counts-clause-copied
returns-in_err-counts-clause-copied g c =
    refused_copies c.args.self.now.parked.items (files_of c.args.self.now) (files_of c.copy_back.new.self) (statement.Checkpoint c.args.mode) (rows_reply c.from_residual-in_err-counts.result) (refusal_of c.in_err-counts.field-0.0)
    (refused_reply c.from_residual-in_err-counts.result c.in_err-counts.field-0.0 c.from_residual-in_err-counts.ensures.1)

pub returns-clause-copied : goal.returns-clause-copied
returns-clause-copied g c =
    answered_copies c.args.mode c.args.self.now.parked.items (files_of c.args.self.now) (files_of c.copy_back.new.self) c.in_ok-counts.counts (map values_of c.put_counts.new.rows.items)
    (c.put_counts.ensures ∙ ap (λ xs. map values_of xs ++ (numbers_of c.in_ok-counts.counts ∷ [])) c.in_ok-rows.ensures.items) c.in_ok-counts.ensures.copies

pub returns-then-not-is_idle-clause-early : goal.returns-then-not-is_idle-clause-early
returns-then-not-is_idle-clause-early g c mode same memory = (refl, refl)

pub returns-in_err-rows-clause-early : goal.returns-in_err-rows-clause-early
returns-in_err-rows-clause-early g c mode same memory = (refl, refl)

pub returns-in_err-counts-clause-early : goal.returns-in_err-counts-clause-early
returns-in_err-counts-clause-early g c mode same memory =
    c.in_err-counts.ensures.copies.refused.0 (short_of c.from_residual-in_err-counts.result c.in_err-counts.field-0.0 c.from_residual-in_err-counts.ensures.1 memory)

pub returns-clause-early : goal.returns-clause-early
returns-clause-early g c mode same memory = absurd (never_short c.put_counts.new.rows memory)
