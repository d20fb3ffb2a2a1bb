use Rattle.std.proofs.Common.{subst, sym}
use Rattle.sql_syntax.specs.declared.statement.Statement.{Statement}
use Rattle.session.specs.Representation.{StepsOn, done_reply}
use Rattle.executor.specs.Forms.{KeepsItsText}
use Rattle.session.proofs.ErrorCauses.{causes_for}
use Rattle.session.proofs.OtherForms.{no_other_form}
use Rattle.session.proofs.StatementCauses.{changes_refused, write_is_full}
use Rattle.session.proofs.transactions.Connections.change.Goals as goal

pub returns-in-Some : goal.returns-in-Some
returns-in-Some g c = record {
  cause = causes_for _ _ _ _ (write_is_full c.in-Some.write c.args.statement.now c.in-Some.ensures.same) c.write.ensures.cause;
  marks = c.write.ensures.marks;
  refused = changes_refused c.args.self.now c.in-Some.write c.args.statement.now c.write.result c.in-Some.ensures.same;
  step = λ keeps query. subst (λ (s : Statement). StepsOn c.args.self.now s (done_reply c.write.result) c.write.new.self) c.in-Some.ensures.same
      (c.write.ensures.step (subst KeepsItsText (sym c.in-Some.ensures.same) keeps));
}

pub returns-in-None-clause-step : goal.returns-in-None-clause-step
returns-in-None-clause-step g c keeps no_rows =
    let other = c.in_default in
    absurd (no_other_form c.args.statement.now c.in-None.ensures.none no_rows other.not-Begin other.not-Commit other.not-Rollback other.not-RollbackTo other.not-Savepoint other.not-Release)
