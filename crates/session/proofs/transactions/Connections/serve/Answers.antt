use Rattle.std.proofs.Common.{subst, sym, List, map}
use Rattle.sql_syntax.specs.declared.statement.Statement.{Statement}
use Rattle.smallvec.specs.SmallVec.{SmallVec}
use Rattle.sqlval.specs.declared.value.Value.{Value}
use Rattle.row_scan.specs.Rows.{values_of}
use Rattle.session.specs.ConnectionState.{files_of}
use Rattle.session.specs.CopiedBack.{KeepsDisksWhereShort}
use Rattle.session.specs.Machine.{Reply, Rows}
use Rattle.session.specs.Representation.{CopiesAnswered, StepsOn, rows_reply}
use Rattle.session.proofs.Executing.{done_copies, no_checkpoint, no_query, query_copies, refused_as, select_is_other}
use Rattle.session.proofs.transactions.Connections.serve.Goals as goal

pub returns-in-Select-clause-step : goal.returns-in-Select-clause-step
returns-in-Select-clause-step g c keeps =
    subst (λ (s : Statement). StepsOn c.args.self.now s (rows_reply c.select.result) c.select.new.self) (sym c.in-Select.is)
    c.select.ensures.step

pub returns-in-Checkpoint-clause-step : goal.returns-in-Checkpoint-clause-step
returns-in-Checkpoint-clause-step g c keeps =
    subst (λ (s : Statement). StepsOn c.args.self.now s (rows_reply c.checkpoint.result) c.checkpoint.new.self) (sym c.in-Checkpoint.is)
    c.checkpoint.ensures.step

pub returns-in_err-change-clause-step : goal.returns-in_err-change-clause-step
returns-in_err-change-clause-step g c keeps =
    subst (λ (r : Reply). StepsOn c.args.self.now c.args.statement.now r c.change.new.self) (sym (refused_as c.from_residual.result c.in_err-change.field-0.0 c.from_residual.ensures.1))
    (c.in_err-change.ensures.step keeps (no_query c.args.statement.now c.in_default.not-Select c.in_default.not-Checkpoint))

pub returns-clause-step : goal.returns-clause-step
returns-clause-step g c keeps =
    subst (λ (rows : List (SmallVec Value)). StepsOn c.args.self.now c.args.statement.now (Rows (map values_of rows)) c.change.new.self) (sym c.new.ensures.items)
    (c.in_ok-change.ensures.step keeps (no_query c.args.statement.now c.in_default.not-Select c.in_default.not-Checkpoint))

pub returns-in-Select-clause-copied : goal.returns-in-Select-clause-copied
returns-in-Select-clause-copied g c =
    query_copies c.args.self.now.parked.items (files_of c.args.self.now) (files_of c.select.new.self) c.args.statement.now (rows_reply c.select.result) c.in-Select.query c.in-Select.is

pub returns-in-Checkpoint-clause-copied : goal.returns-in-Checkpoint-clause-copied
returns-in-Checkpoint-clause-copied g c =
    subst (λ (s : Statement). CopiesAnswered c.args.self.now.parked.items (files_of c.args.self.now) s (rows_reply c.checkpoint.result) (files_of c.checkpoint.new.self)) (sym c.in-Checkpoint.is)
    c.checkpoint.ensures.copied

pub returns-in_err-change-clause-copied : goal.returns-in_err-change-clause-copied
returns-in_err-change-clause-copied g c =
    done_copies c.args.self.now.parked.items (files_of c.args.self.now) (files_of c.change.new.self) c.args.statement.now (rows_reply c.from_residual.result)
    (no_query c.args.statement.now c.in_default.not-Select c.in_default.not-Checkpoint)

pub returns-clause-copied : goal.returns-clause-copied
returns-clause-copied g c =
    done_copies c.args.self.now.parked.items (files_of c.args.self.now) (files_of c.change.new.self) c.args.statement.now (Rows (map values_of c.new.result.items))
    (no_query c.args.statement.now c.in_default.not-Select c.in_default.not-Checkpoint)

pub returns-in-Select-clause-early : goal.returns-in-Select-clause-early
returns-in-Select-clause-early g c mode same memory = absurd (select_is_other c.args.statement.now c.in-Select.query mode c.in-Select.is same)

pub returns-in-Checkpoint-clause-early : goal.returns-in-Checkpoint-clause-early
returns-in-Checkpoint-clause-early g c =
    subst (λ (s : Statement). KeepsDisksWhereShort s (files_of c.args.self.now) c.checkpoint.result (files_of c.checkpoint.new.self)) (sym c.in-Checkpoint.is) c.checkpoint.ensures.early

pub returns-in_err-change-clause-early : goal.returns-in_err-change-clause-early
returns-in_err-change-clause-early g c mode same memory = absurd (no_checkpoint c.args.statement.now mode (no_query c.args.statement.now c.in_default.not-Select c.in_default.not-Checkpoint) same)

pub returns-clause-early : goal.returns-clause-early
returns-clause-early g c mode same memory = absurd (no_checkpoint c.args.statement.now mode (no_query c.args.statement.now c.in_default.not-Select c.in_default.not-Checkpoint) same)
