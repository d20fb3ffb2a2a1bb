use Rattle.std.proofs.Common.{◌∙◌, inr, subst, sym}
use Rattle.session.specs.Representation.{Steps, rows_reply}
use Rattle.sql_syntax.specs.declared.statement.Statement.{Statement}
use Rattle.std.specs.Prelude.{Bool, IsTrue}
use Rattle.engine.proofs.Preparation.{bound_full, bound_keeps, some_statement}
use Rattle.engine.proofs.Refusing.{full_of}
use Rattle.engine.proofs.opening.Engine.run_prepared.Goals as goal

pub returns-clause-step : goal.returns-clause-step
returns-clause-step g c whole there many bound is =
    let made = c.in_ok-statement.ensures.is in
    let same = some_statement c.in-Some.statement bound (sym c.in-Some.is ∙ made ∙ is) in
    let step = c.execute-reply.ensures.step (bound_keeps c.args.values.now c.args.prepared.now.statement c.in-Some.statement (sym made ∙ c.in-Some.is)) in
    inr (subst (λ (s : Statement). Steps c.args.self.now.connections c.args.connection s (rows_reply c.execute-reply.result) c.execute-reply.new.self) same step)

pub returns-clause-full : goal.returns-clause-full
returns-clause-full g c is =
    let made = c.in_ok-statement.ensures.is in
    subst (λ (may : Bool). IsTrue may) (bound_full c.args.values.now c.args.prepared.now.statement c.in-Some.statement (sym made ∙ c.in-Some.is))
    (full_of _ c.execute-reply.result _ _ c.execute-reply.ensures.cause is)
