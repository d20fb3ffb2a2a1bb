use Rattle.std.proofs.Common.{sym, ◌∙◌}
use Rattle.session.proofs.Showing.{rollback_refused, rolled_back}
use Rattle.session.proofs.transactions.Connections.rollback_here.Goals as goal

pub returns-then-is_idle-clause-step : goal.returns-then-is_idle-clause-step
returns-then-is_idle-clause-step g c = rollback_refused c.args.self.now (sym c.is_idle.ensures ∙ c.if-is_idle.true)

pub returns-clause-step : goal.returns-clause-step
returns-clause-step g c = rolled_back c.args.self.now c.give_up.new.self (sym c.is_idle.ensures ∙ c.if-is_idle.false) c.give_up.ensures
