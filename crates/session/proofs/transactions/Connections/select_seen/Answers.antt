use Rattle.std.proofs.Common.{sym, subst}
use Rattle.session.specs.Machine.{Reply}
use Rattle.session.specs.Representation.{StepsTo}
use Rattle.sql_syntax.specs.declared.statement.Statement.TheVariants as statement
use Rattle.session.proofs.Selecting.{refused_reply, select_gives, select_refused}
use Rattle.session.proofs.transactions.Connections.select_seen.Goals as goal

pub returns-in_err-rows-clause-step : goal.returns-in_err-rows-clause-step
returns-in_err-rows-clause-step g c base m shown =
    subst (λ (r : Reply). StepsTo c.args.self.now m (statement.Select c.args.query.now) r c.read.new.self) (sym (refused_reply c.from_residual.result c.in_err-rows.field-0.0 c.from_residual.ensures.1))
    (select_refused c.args.self.now c.read.new.self c.args.query.now c.in_err-rows.field-0.0 base c.read.ensures.reads (λ m db shown stored. c.in_err-rows.ensures.answered m db shown stored) m shown)

pub returns-clause-step : goal.returns-clause-step
returns-clause-step g c base =
    select_gives c.args.self.now c.read.new.self c.begin_reading.new.self c.args.query.now _ base c.read.ensures.reads c.begin_reading.ensures (λ m db shown stored. c.in_ok-rows.ensures.answered m db shown stored)
