use Rattle.std.proofs.Common.{sym, ◌∙◌}
use Rattle.session.proofs.Showing.{begin_refused}
use Rattle.session.proofs.transactions.Connections.begin_here.Goals as goal

pub returns-then-not-is_idle-clause-step : goal.returns-then-not-is_idle-clause-step
returns-then-not-is_idle-clause-step g c = begin_refused c.args.self.now c.args.mode (sym c.is_idle.ensures ∙ c.if-not-is_idle.true)
