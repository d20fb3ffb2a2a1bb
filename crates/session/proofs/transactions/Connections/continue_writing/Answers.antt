use Rattle.session.proofs.Writing.{wrote_on}
use Rattle.session.proofs.transactions.Connections.continue_writing.Goals as goal

pub returns-clause-step : goal.returns-clause-step
returns-clause-step g c keeps =
    wrote_on c.args.self.now c.apply_marked-result.new.self c.args.writer c.apply_marked-result.new.writer c.args.write c.apply_marked-result.result (λ db applies. c.apply_marked-result.ensures.applies db keeps applies)
    c.apply_marked-result.ensures.back c.apply_marked-result.ensures.marks c.apply_marked-result.ensures.stands
