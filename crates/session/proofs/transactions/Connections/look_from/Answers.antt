use Rattle.std.proofs.Common.{sym, subst}
use Rattle.session.specs.Looking.{IsPresentIn}
use Rattle.session.specs.declared.transactions.Connections.{Connections}
use Rattle.session.proofs.LookingOnly.{switched, turned}
use Rattle.session.proofs.transactions.Connections.look_from.Goals as goal

pub returns-in_err-take_newest-clause-turned : goal.returns-in_err-take_newest-clause-turned
returns-in_err-take_newest-clause-turned g c m shows =
    subst (λ (x : Connections g.row.D.Denot g.D.Disk). IsPresentIn m c.args.connection x) (sym c.in_err-take_newest.ensures.refused.1)
    (switched c.args.self.now c.switch.new.self c.args.connection m c.requires.free c.switch.ensures shows)

pub returns-clause-turned : goal.returns-clause-turned
returns-clause-turned g c m shows =
    turned c.args.self.now c.switch.new.self c.take_newest.new.self c.args.connection m c.requires.free c.switch.ensures c.in_ok-take_newest.ensures.taken shows
