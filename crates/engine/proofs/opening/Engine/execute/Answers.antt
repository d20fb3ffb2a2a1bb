use Rattle.std.proofs.Common.{refl, subst, sym}
use Rattle.session.specs.Machine.{Reply}
use Rattle.session.specs.Representation.{rows_reply}
use Rattle.session.proofs.Executing.{refused_as}
use Rattle.sqlval.specs.declared.fault.Fault.{Fault}
use Rattle.sql_parser.proofs.Grammar.{exact_statement}
use Rattle.sql_parser.proofs.ParseLaws.{one_text}
use Rattle.sql_parser.specs.Refusals.{IsTextRefusal}
use Rattle.sql_syntax.specs.declared.statement.Statement.{Statement}
use Rattle.session.specs.ConnectionState.{files_of}
use Rattle.session.specs.CopiedBack.{KeepsDisksWhereShort}
use Rattle.engine.proofs.Marked.{check_not_io, for_any, nothing_called}
use Rattle.engine.proofs.PastLimits.{past_of}
use Rattle.engine.proofs.Refusing.{full_of}
use Rattle.engine.specs.Representation.{StepsByText, files_in}
use Rattle.engine.proofs.TextSteps.{executed, read_candidate, refused_check, refused_text, text_fault}
use Rattle.engine.proofs.opening.Engine.execute.Goals as goal

pub returns-in_err-check-clause-counted : goal.returns-in_err-check-clause-counted
returns-in_err-check-clause-counted g c =
    nothing_called c.from_residual.result c.in_err-check.field-0.0 c.args.self.now c.from_residual.ensures.1
    (check_not_io _ c.args.connection c.in_err-check.field-0.0 (sym c.in_err-check.ensures))

pub returns-in_err-statement-clause-counted : goal.returns-in_err-statement-clause-counted
returns-in_err-statement-clause-counted g c =
    nothing_called c.from_residual-in_err-statement.result c.in_err-statement.field-0.0 c.args.self.now c.from_residual-in_err-statement.ensures.1
    (λ io. absurd (subst (λ (f : Fault). IsTextRefusal c.args.text.now f) io c.in_err-statement.ensures.refused))

pub returns-clause-counted : goal.returns-clause-counted
returns-clause-counted g c = record { cause = for_any _ c.execute-rows.result _ _ c.execute-rows.ensures.cause; marks = c.execute-rows.ensures.marks }

pub returns-clause-full : goal.returns-clause-full
returns-clause-full g c is =
    let statement = c.in_ok-statement.statement in (
      statement,
      c.in_ok-statement.ensures.found.0,
      full_of _ c.execute-rows.result _ _ c.execute-rows.ensures.cause is,
      past_of _ c.args.connection statement c.execute-rows.result (sym c.in_ok-check.ensures) c.execute-rows.ensures.refused is,
    )

pub returns-in_err-check-clause-early : goal.returns-in_err-check-clause-early
returns-in_err-check-clause-early g c = λ s is mode checkpoint short. (refl, refl)

pub returns-in_err-statement-clause-early : goal.returns-in_err-statement-clause-early
returns-in_err-statement-clause-early g c = λ s is mode checkpoint short. (refl, refl)

pub returns-clause-early : goal.returns-clause-early
returns-clause-early g c = λ s is.
    subst (λ (x : Statement). KeepsDisksWhereShort x (files_in c.args.self.now) c.execute-rows.result (files_of c.execute-rows.new.self))
    (one_text exact_statement c.args.text.now c.in_ok-statement.statement s c.in_ok-statement.ensures.found.0 is) c.execute-rows.ensures.early

pub returns-in_err-check-clause-step : goal.returns-in_err-check-clause-step
returns-in_err-check-clause-step g c =
    let fault = c.in_err-check.field-0.0 in
    subst (λ (reply : Reply). StepsByText c.args.self.now c.args.connection c.args.text.now reply c.args.self.now)
    (sym (refused_as c.from_residual.result fault c.from_residual.ensures.1))
    (refused_check c.args.self.now c.args.connection c.args.text.now fault (sym c.in_err-check.ensures))

pub returns-in_err-statement-clause-step : goal.returns-in_err-statement-clause-step
returns-in_err-statement-clause-step g c =
    let fault = c.in_err-statement.field-0.0 in
    let why = text_fault c.args.text.now fault c.in_err-statement.ensures.exact c.in_err-statement.ensures.refused c.in_err-statement.ensures.unsupported in
    subst (λ (reply : Reply). StepsByText c.args.self.now c.args.connection c.args.text.now reply c.args.self.now)
    (sym (refused_as c.from_residual-in_err-statement.result fault c.from_residual-in_err-statement.ensures.1))
    (refused_text c.args.self.now c.args.connection c.args.text.now fault (sym c.in_ok-check.ensures) why)

pub returns-clause-step : goal.returns-clause-step
returns-clause-step g c =
    let statement = c.in_ok-statement.statement in
    let found = c.in_ok-statement.ensures.found in
    let stands = read_candidate c.args.text.now statement c.in_ok-statement.ensures.exact c.in_ok-statement.ensures.unsupported in
    executed c.args.self.now c.args.connection c.args.text.now statement (rows_reply c.execute-rows.result) c.execute-rows.new.self
    (sym c.in_ok-check.ensures) stands found.0 found.1 c.execute-rows.ensures.step
