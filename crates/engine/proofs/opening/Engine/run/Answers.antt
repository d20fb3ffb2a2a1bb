use Rattle.engine.proofs.Marked.{run_marks}
use Rattle.engine.proofs.Served.{ran, ran_in_part}
use Rattle.engine.proofs.opening.Engine.run.Goals as goal

pub returns-clause-served : goal.returns-clause-served
returns-clause-served g c =
    ran c.args.self.now c.serve-result.new.self c.give_up.new.self c.serve-result.result (g.I.Read.remaining c.args.input.now) (g.I.Read.remaining c.serve-result.new.input)
    (g.O.Write.contents c.args.output.now) (g.O.Write.contents c.serve-result.new.output) c.serve-result.ensures.served c.give_up.ensures

pub returns-clause-refused : goal.returns-clause-refused
returns-clause-refused g c =
    ran_in_part c.args.self.now c.serve-result.new.self c.give_up.new.self c.serve-result.result (g.I.Read.remaining c.args.input.now)
    (g.O.Write.contents c.args.output.now) (g.O.Write.contents c.serve-result.new.output) c.serve-result.ensures.refused c.give_up.ensures

pub returns-clause-marked : goal.returns-clause-marked
returns-clause-marked g c =
    run_marks c.args.self.now c.serve-result.new.self c.give_up.new.self c.serve-result.result (g.I.Read.remaining c.args.input.now) (g.I.Read.remaining c.serve-result.new.input)
    (g.O.Write.contents c.args.output.now) (g.O.Write.contents c.serve-result.new.output) c.serve-result.ensures.served c.serve-result.ensures.refused c.give_up.ensures
