use Rattle.std.proofs.Common.{sym, subst}
use Rattle.session.specs.Machine.{Reply}
use Rattle.session.specs.Representation.{StepsTo, rows_reply}
use Rattle.sql_syntax.specs.declared.statement.Statement.TheVariants as statement
use Rattle.session.proofs.FirstRefusals.{short_of}
use Rattle.session.proofs.Selecting.{refused_reply}
use Rattle.session.proofs.Switching.{after_taking, taken_newest}
use Rattle.session.proofs.transactions.Connections.select.Goals as goal

pub returns-in_err-take_newest-clause-step : goal.returns-in_err-take_newest-clause-step
returns-in_err-take_newest-clause-step g c m shown =
    subst (λ (r : Reply). StepsTo c.args.self.now m (statement.Select c.args.query.now) r c.take_newest.new.self) (sym (refused_reply c.from_residual.result c.in_err-take_newest.field-0.0 c.from_residual.ensures.1))
    (short_of c.args.self.now c.take_newest.new.self (statement.Select c.args.query.now) c.in_err-take_newest.field-0.0 c.in_err-take_newest.ensures.refused.0 c.in_err-take_newest.ensures.refused.1 m shown)

pub returns-clause-step : goal.returns-clause-step
returns-clause-step g c =
    after_taking c.args.self.now c.take_newest.new.self c.select_seen.new.self (statement.Select c.args.query.now) (rows_reply c.select_seen.result) c.in_ok-take_newest.ensures.taken
    (c.select_seen.ensures.step (taken_newest c.args.self.now c.take_newest.new.self c.in_ok-take_newest.ensures.taken))
